-- Every row of the acceptance bench, and every worked example, by computation. Assumes nothing.
use mathlib.Core.Path.{refl}
use Rattle.codec.specs.Choice.{pick}
use Rattle.codec.specs.Bytes.{bytes_of, value_of, part, field, overwrite, same}
use Rattle.codec.specs.Layout.{layout, piece_bytes}
use Rattle.utf8.specs.Utf8.{range, tail as tailByte, one, two, three, four, first, front as char_at, units_of, valid_from, valid, units_from, units}
use Rattle.java_hash.specs.Hash.{hash_from, hash_of, signed, carried, tag_code, absolute, index_hash, slot_of}
use Rattle.properties.specs.Parts.{onto, parts, filled, bytes_at, place}
use Rattle.properties.specs.Finder.{pair_value, values, also, found_in, finder, scanned, found_bytes}
use Rattle.properties.specs.Keys.{filled_places, keys_from, key_places}
use Rattle.directory.specs.Directory.{row_length, row_kind, row_id, row_queue, kind_ok, row_ok, before, rows_within, names, row_from, listed, distinct, distinct_rows, queues, counted, row_count, row_of}
use Rattle.record.specs.Record.{fields_of, body_length, topic_length, properties_length, message_of, lengths_fit, host_bits_clear, fields_sound, values_valid, text_rules, rules_hold, sound_over, is_sound, is_here, head_of, head_at, headed, entry_at}
use Rattle.record_writer.specs.Encode.{front, hosts, back, tail, encode, blank}
use Rattle.record_writer.specs.Writing.{fields_fit, hosts_fit}
use Rattle.commit_log.specs.Log.{geometry_ok, segment_rest, outside, seen, entry_within, misplaced, request_ok, placed, appended}
use Rattle.commit_log.specs.Stretch.{ends_with, prepend, walk_on, entries_of, stretch}
use Rattle.consume_queue.specs.Queue.{entries_ok, fitted, queue_rows, counts_ok, entry_place, entry_bytes}
use Rattle.index_file.specs.Index.{sizes_ok, untouched, header_sound, item_bytes, item_of, seconds_of, header_after, item_for, filled_after, put}
use Rattle.consume_queue.specs.Entering.{entry_answer, entered_queues, entered_counts}
use Rattle.index_file.specs.Items.{is_ahead, is_full, bad_slot, any_bad_slot, items_answer, put_all}
use Rattle.index_query.specs.Walk.{criteria_of, hit, damaged, matched, visit, walk, search}
use Rattle.index_query.specs.Query.{wanted_of, query_fits, query_ok, query_walk, reported, queried}
use Rattle.machine.specs.Steps.{run, ran_from, one_more}
use Rattle.machine.specs.Calls.{call, admit}
use Rattle.dispatch_request.specs.Request.{transaction, makes_entry, makes_items, row_number, tag_of, is_found, unique_key, keys_at, keys_in, item_keys, item_hashes, record_keys, record_hashes, request_of, stands_as, stands_at, made_of}
use Rattle.dispatch_step.specs.Step.{unless, written, filed, moved_by, step_as, step_of}
use Rattle.dispatch.specs.Dispatch.{sizes_fit, is_refused, progress_bad, door_of}
use Rattle.shift_report.specs.Figures.{of_either, add, only, record_figures, figures_at, figures_of, tabled, as_numbers}
use Rattle.shift_report.specs.Report.{refused_report, report_of, rows_report, shift_report}
use Rattle.acceptance.specs.Bench.{bench, BenchHolds}
use Rattle.acceptance.specs.Examples.{property_examples, hash_examples, directory_examples, rows, examples, ExamplesHold}
use Rattle.acceptance.specs.Reports.{report_examples, ReportsHold}
use Rattle.acceptance.specs.Texts.{text_examples, TextsHold}

pub bench_holds : BenchHolds
unfolding bench pick bytes_of range tailByte one two three four first char_at valid_from valid units_of units_from units hash_from hash_of signed carried tag_code absolute index_hash appended geometry_ok misplaced request_ok placed segment_rest fields_sound host_bits_clear values_valid text_rules seconds_of put_all put header_after filled_after item_for item_bytes overwrite layout piece_bytes value_of part field slot_of item_hashes item_keys keys_in keys_at unique_key is_found scanned finder found_in also values pair_value parts onto filled place bytes_at found_bytes same filled_places keys_from key_places items_answer is_ahead is_full bad_slot any_bad_slot header_sound sizes_ok untouched fields_fit hosts_fit encode front hosts back tail call admit run ran_from one_more sizes_fit is_refused progress_bad door_of transaction makes_entry makes_items row_number tag_of record_hashes request_of made_of stands_as stands_at entry_answer entered_queues entered_counts unless written filed moved_by step_as step_of entries_ok fitted queue_rows counts_ok entry_place entry_bytes outside seen entry_within fields_of body_length topic_length properties_length message_of lengths_fit rules_hold sound_over is_sound is_here head_of head_at headed entry_at row_length row_kind row_id row_queue kind_ok row_ok before rows_within names row_from listed distinct distinct_rows queues counted row_count row_of
bench_holds = (refl, (refl, (refl, (refl, (refl, (refl, (refl, (refl, (refl, (refl, (refl, (refl, (refl, (refl, (refl, (refl, (refl, (refl, (refl, (refl, (refl, tt)))))))))))))))))))))

pub examples_hold : ExamplesHold
unfolding examples property_examples hash_examples directory_examples rows pick bytes_of value_of part field same range tailByte one two three four first char_at units_of units_from units hash_from signed absolute index_hash onto parts filled bytes_at place pair_value values also found_in finder found_bytes filled_places keys_from key_places row_length row_kind row_id row_queue kind_ok row_ok before rows_within names row_from listed distinct distinct_rows queues counted row_count row_of
examples_hold = (refl, (refl, (refl, (refl, (refl, (refl, (refl, (refl, (refl, (refl, (refl, (refl, (refl, (refl, (refl, (refl, (refl, (refl, (refl, (refl, (refl, (refl, (refl, (refl, (refl, (refl, (refl, (refl, (refl, (refl, tt))))))))))))))))))))))))))))))

pub reports_hold : ReportsHold
unfolding report_examples shift_report rows_report report_of refused_report as_numbers tabled figures_of figures_at record_figures only add of_either stretch entries_of walk_on prepend ends_with pick bytes_of appended geometry_ok misplaced request_ok placed segment_rest fields_sound host_bits_clear range tailByte one two three four first char_at valid_from valid values_valid text_rules overwrite layout piece_bytes value_of part field item_keys keys_in keys_at unique_key is_found scanned finder found_in also values pair_value parts onto filled place bytes_at found_bytes same filled_places keys_from key_places fields_fit hosts_fit blank encode front hosts back tail transaction makes_items row_number record_keys outside seen entry_within fields_of body_length topic_length properties_length message_of lengths_fit rules_hold sound_over is_sound is_here head_of head_at headed entry_at row_length row_kind row_id row_queue kind_ok row_ok before rows_within names row_from listed distinct distinct_rows queues counted row_count row_of
reports_hold = (refl, (refl, (refl, (refl, (refl, (refl, (refl, (refl, (refl, (refl, tt))))))))))

pub texts_hold : TextsHold
unfolding text_examples pick bytes_of range tailByte one two three four first char_at valid_from valid units_of units_from units hash_from hash_of signed carried tag_code absolute index_hash appended geometry_ok misplaced request_ok placed segment_rest fields_sound host_bits_clear values_valid text_rules put_all put header_after filled_after item_for item_bytes overwrite layout piece_bytes value_of part field slot_of item_hashes item_keys keys_in keys_at unique_key is_found scanned finder found_in also values pair_value parts onto filled place bytes_at found_bytes same filled_places keys_from key_places items_answer is_ahead is_full bad_slot any_bad_slot header_sound sizes_ok untouched fields_fit hosts_fit encode front hosts back tail call admit run ran_from one_more sizes_fit is_refused progress_bad door_of transaction makes_entry makes_items row_number tag_of record_hashes request_of made_of stands_as stands_at entry_answer entered_queues entered_counts unless written filed moved_by step_as step_of entries_ok fitted queue_rows counts_ok entry_place entry_bytes outside seen entry_within fields_of body_length topic_length properties_length message_of lengths_fit rules_hold sound_over is_sound is_here head_of head_at headed entry_at row_length row_kind row_id row_queue kind_ok row_ok before rows_within names row_from listed distinct distinct_rows queues counted row_count row_of shift_report rows_report report_of refused_report as_numbers tabled figures_of figures_at record_figures only add of_either stretch entries_of walk_on prepend ends_with record_keys item_of criteria_of hit damaged matched visit walk search wanted_of query_fits query_ok query_walk reported queried seconds_of
texts_hold = (refl, (refl, (refl, (refl, (refl, (refl, (refl, (refl, (refl, (refl, (refl, (refl, (refl, (refl, (refl, (refl, (refl, tt)))))))))))))))))
