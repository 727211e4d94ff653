-- Worked examples of text, as data like the bench's: document 02, item 2. Assumes nothing.
use Rattle.std.specs.Prelude.{ℕ, List, [], ◌∷◌, ◌++◌, replicate}
use Rattle.codec.specs.Bytes.{part}
use Rattle.units.specs.declared.Answer.TheVariants.{Done}
use Rattle.units.specs.Answers.{number_of}
use Rattle.java_hash.specs.Hash.{index_hash}
use Rattle.record_writer.specs.Encode.{parts_of, encode}
use Rattle.commit_log.specs.Log.{AppendOutcome, append_outcome, appended}
use Rattle.index_query.specs.Query.{queried}
use Rattle.acceptance.specs.Bench.{Row, Holds, hashed, geometry, fields, bench_parts, keys, fresh, indexed, sent, empty, ran, dispatched}
use Rattle.acceptance.specs.Examples.{directory_row, shown_rows}
use Rattle.acceptance.specs.Reports.{queue_zero, reported, none}

-- `TAGS 01`, then these bytes
abbrev pub tags : List ℕ → List ℕ
tags bytes = 84 ∷ 65 ∷ 71 ∷ 83 ∷ 1 ∷ bytes

-- C3 A9; F0 9F 98 80; the surrogate ED A0 80
abbrev pub accent : List ℕ
accent = 195 ∷ 169 ∷ []

abbrev pub face : List ℕ
face = 240 ∷ 159 ∷ 152 ∷ 128 ∷ []

abbrev pub surrogate : List ℕ
surrogate = 237 ∷ 160 ∷ 128 ∷ []

-- the answer's number and the write position after an append at 0: 91 bytes, and those of topic and properties
abbrev pub taken : List ℕ → List ℕ → List ℕ
taken topic properties =
    let made = (appended (replicate 1024 0) geometry (record { 0 = 0 }) fields (parts_of (replicate 8 0) (replicate 8 0) [] topic properties)).made in
    number_of made.answer ∷ made.write_position.0 ∷ []

-- a rollback whose TAGS is FF, 98 bytes, as no append writes it
abbrev pub unsound : AppendOutcome
unsound =
    append_outcome Done (record { 0 = 98 })
    (encode (record { 0 = 0 })
    (record {
      body_crc = 0;
      queue_id = 0;
      flag = 0;
      queue_offset = record { 0 = 0 };
      system_flag = 12;
      born_time = 0;
      store_time = 10000;
      reconsume_times = 0;
      prepared_offset = 0;
    }) (bench_parts (tags (255 ∷ []))) ++ replicate 926 0)

-- the answer's number, how many are found and the output, which was 7: one wanted, of topic T and this key
abbrev pub asked : List ℕ → List ℕ → List ℕ
asked key index =
    let r = queried 2 4 index (84 ∷ []) key 0 20000 1 (7 ∷ []) in number_of r.made.answer ∷ r.made.found ∷ r.out

unfoldable pub text_examples : List Row
text_examples =
    -- one character is two units; a byte order mark is a unit as any other
    record { given = hashed face; wanted = 0 ∷ 1772899 ∷ [] }
    ∷ record { given = hashed (239 ∷ 187 ∷ 191 ∷ 107 ∷ []); wanted = 0 ∷ 2023756 ∷ [] }
    -- topic T, key C3 A9: 84, 35, 233
    ∷ record { given = index_hash (84 ∷ []) accent ∷ []; wanted = 82042 ∷ [] }
    -- "a query or append holding them 17 or 5": a topic, TAGS, the whole of KEYS, where a space parts two bytes of a character
    ∷ record { given = taken accent (tags face); wanted = 0 ∷ 102 ∷ [] }
    ∷ record { given = taken (195 ∷ []) []; wanted = 5 ∷ 0 ∷ [] }
    ∷ record { given = taken (84 ∷ []) (tags (255 ∷ [])); wanted = 5 ∷ 0 ∷ [] }
    ∷ record { given = taken (84 ∷ []) (keys (195 ∷ 32 ∷ 169 ∷ [])); wanted = 5 ∷ 0 ∷ [] }
    ∷ record { given = asked surrogate fresh; wanted = 17 ∷ 0 ∷ 7 ∷ [] }
    ∷ record { given = asked accent fresh; wanted = 0 ∷ 0 ∷ 7 ∷ [] }
    ∷ record { given = asked accent (indexed 92 (keys accent) fresh); wanted = 0 ∷ 1 ∷ 92 ∷ [] }
    -- "earlier pairs of a name .. are not judged": `TAGS 01 FF 02 TAGS 01 a`, and the other way round; `X 01 FF`; a topic of the directory
    ∷ record { given = taken (84 ∷ []) (tags (255 ∷ 2 ∷ tags (97 ∷ []))); wanted = 0 ∷ 105 ∷ [] }
    ∷ record { given = taken (84 ∷ []) (tags (97 ∷ 2 ∷ tags (255 ∷ []))); wanted = 5 ∷ 0 ∷ [] }
    ∷ record { given = taken (84 ∷ []) (88 ∷ 1 ∷ 255 ∷ []); wanted = 0 ∷ 95 ∷ [] }
    ∷ record { given = shown_rows (directory_row 1 0 (255 ∷ [])); wanted = 1 ∷ 1 ∷ [] }
    -- "make the record unsound", a rollback too
    ∷ record { given = dispatched 18446744073709551615 unsound; wanted = 10 ∷ 0 ∷ 0 ∷ 0 ∷ 1 ∷ [] }
    ∷ record { given = reported queue_zero 0 98 unsound; wanted = none 10 }
    -- the entry's tag code of TAGS C3 A9
    ∷ record { given = part 8 12 (ran 18446744073709551615 (sent 0 (tags accent) empty)).state.queues; wanted = replicate 7 0 ++ 233 ∷ [] }
    ∷ []

abbrev pub TextsHold : Type 0
TextsHold = Holds text_examples
