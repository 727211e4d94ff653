-- Which number of a lent array is which: the structs of include/swistopal.h that a call takes, their members in their order; of `swistopal_fields`
-- `fields_in` (record_writer) says it. Of those that it only tells, `numbers` (record), `query_gives` (swistopal_index), `as_numbers` (shift_report) and
-- `values_of` (swistopal_facts) say it. Assumes nothing.
use Rattle.std.specs.Prelude.{ℕ, zero, suc, List, [], ◌∷◌, get_or}
use Rattle.units.specs.declared.LogPosition.{LogPosition}
use Rattle.commit_log.specs.declared.Geometry.{Geometry}
use Rattle.index_file.specs.declared.IndexSizes.{IndexSizes}
use Rattle.dispatch_step.specs.declared.Sizes.{Sizes}
use Rattle.dispatch_step.specs.declared.Progress.{Progress}

abbrev pub position : ℕ → LogPosition
position p = record { 0 = p }

-- `swistopal_sizes`: segment_size, first_position, queue_entries, slot_count, item_count
unfoldable pub geometry_in : List ℕ → Geometry
geometry_in sizes = record { segment_size = get_or sizes 0 0; first_position = position (get_or sizes 1 0) }

unfoldable pub queue_entries_in : List ℕ → ℕ
queue_entries_in sizes = get_or sizes 2 0

unfoldable pub index_sizes_in : List ℕ → IndexSizes
index_sizes_in sizes = record { slot_count = get_or sizes 3 0; item_count = get_or sizes 4 0 }

unfoldable pub sizes_in : List ℕ → Sizes
sizes_in sizes = record { geometry = geometry_in sizes; queue_entries = queue_entries_in sizes; index = index_sizes_in sizes }

-- n numbers of a list, from place `at` on
unfoldable pub numbers_from : ℕ → ℕ → List ℕ → List ℕ
numbers_from zero at l = []
numbers_from (suc n) at l = get_or l at 0 ∷ numbers_from n (suc at) l

-- `swistopal_progress`: position, counts
unfoldable pub progress_in : List ℕ → Progress
progress_in progress = record { position = position (get_or progress 0 0) }

unfoldable pub counts_in : List ℕ → List ℕ
counts_in progress = numbers_from 16 1 progress

unfoldable pub progress_of : Progress → List ℕ → List ℕ
progress_of progress counts = progress.position.0 ∷ numbers_from 16 0 counts
