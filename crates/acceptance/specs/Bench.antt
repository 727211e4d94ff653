-- Document 01, "Acceptance bench": the rows marked P, as data; that of C3 A9 as document 02, item 2, has it. Assumes nothing.
use Rattle.std.specs.Prelude.{ℕ, ◌≡◌, List, [], ◌∷◌, length, get_or, replicate}
use Rattle.codec.specs.Bytes.{big, bytes_of, part}
use Rattle.codec.specs.Lists.{All}
use Rattle.units.specs.declared.Answer.TheVariants.{Done}
use Rattle.units.specs.Answers.{number_of}
use Rattle.java_hash.specs.Hash.{Signed, plus, minus, signed, hash_of, tag_code, index_hash, absolute}
use Rattle.record.specs.declared.Fields.{Fields}
use Rattle.commit_log.specs.declared.Geometry.{Geometry}
use Rattle.record_writer.specs.Encode.{RecordParts, parts_of}
use Rattle.commit_log.specs.Log.{AppendOutcome, append_outcome, appended}
use Rattle.index_file.specs.Index.{filled_slots, used_count, slot_value, seconds_of}
use Rattle.index_file.specs.Items.{items_answer, put_all}
use Rattle.dispatch_request.specs.Request.{item_keys, item_hashes}
use Rattle.machine.specs.Steps.{Ran}
use Rattle.machine.specs.Calls.{call}
use Rattle.dispatch_step.specs.Step.{State, position_of}
use Rattle.dispatch.specs.Dispatch.{dispatcher}

-- what a definition gives, and what the bench says it must be: numbers or bytes
pub record Row : Type 0 where
  pub given : List ℕ
  pub wanted : List ℕ

-- every row holds
abbrev pub Holds : List Row → Type 0
Holds rows = All (λ (r : Row). r.given ≡ r.wanted) rows

-- a signed number: 0, or 1 below zero, then its absolute value
abbrev pub shown : Signed → List ℕ
shown (plus n) = 0 ∷ n ∷ []
shown (minus n) = 1 ∷ n ∷ []

abbrev pub hashed : List ℕ → List ℕ
hashed bytes = shown (signed (hash_of bytes))

-- `polygenelubricants`
abbrev pub polygenelubricants : List ℕ
polygenelubricants = 112 ∷ 111 ∷ 108 ∷ 121 ∷ 103 ∷ 101 ∷ 110 ∷ 101 ∷ 108 ∷ 117 ∷ 98 ∷ 114 ∷ 105 ∷ 99 ∷ 97 ∷ 110 ∷ 116 ∷ 115 ∷ []

-- ---- appending at 924 of the first of two segments of 1,024 bytes, so that r is 100

abbrev pub fields : Fields
fields =
    record {
      body_crc = 0;
      queue_id = 0;
      flag = 0;
      queue_offset = record { 0 = 0 };
      system_flag = 0;
      born_time = 0;
      store_time = 10000;
      reconsume_times = 0;
      prepared_offset = 0;
    }

-- no body, topic T, and hosts of zeros
abbrev pub bench_parts : List ℕ → RecordParts
bench_parts properties = parts_of (replicate 8 0) (replicate 8 0) [] (84 ∷ []) properties

-- the answer's number and the write position, of topic T and these properties: 92 bytes and one for each of theirs
abbrev pub appended_at924 : List ℕ → List ℕ
appended_at924 properties =
    let made = (appended (replicate 2048 0) (record { segment_size = 1024; first_position = record { 0 = 0 } }) (record { 0 = 924 }) fields (bench_parts properties)).made in
    number_of made.answer ∷ made.write_position.0 ∷ []

-- ---- an index of 2 slots and 4 items

abbrev pub fresh : List ℕ
fresh = replicate 128 0

-- the index after the items of a record at this position, topic T, time 10,000
abbrev pub indexed : ℕ → List ℕ → List ℕ → List ℕ
indexed position properties index = put_all 2 position 10000 (item_hashes (84 ∷ []) properties) index

-- rule 7's answer for such a record
abbrev pub checked : ℕ → List ℕ → List ℕ → List ℕ
checked position properties index = number_of (items_answer 2 4 index position (item_hashes (84 ∷ []) properties)) ∷ []

-- `UNIQ_KEY 01 k`; `KEYS 01`, then these bytes
abbrev pub unique_key_k : List ℕ
unique_key_k = 85 ∷ 78 ∷ 73 ∷ 81 ∷ 95 ∷ 75 ∷ 69 ∷ 89 ∷ 1 ∷ 107 ∷ []

abbrev pub keys : List ℕ → List ℕ
keys bytes = 75 ∷ 69 ∷ 89 ∷ 83 ∷ 1 ∷ bytes

-- ---- dispatch: a segment of 1,024 bytes, queue 0 of topic T with two entries, and that index

abbrev pub geometry : Geometry
geometry = record { segment_size = 1024; first_position = record { 0 = 0 } }

-- the log and its readable end after a record of topic T, this queue offset and these properties
abbrev pub sent : ℕ → List ℕ → AppendOutcome → AppendOutcome
sent offset properties o =
    appended o.log geometry o.made.write_position
    (record {
      body_crc = 0;
      queue_id = 0;
      flag = 0;
      queue_offset = record { 0 = offset };
      system_flag = 0;
      born_time = 0;
      store_time = 10000;
      reconsume_times = 0;
      prepared_offset = 0;
    }) (bench_parts properties)

abbrev pub empty : AppendOutcome
empty = append_outcome Done (record { 0 = 0 }) (replicate 1024 0)

-- KEYS `a b c`, and then KEYS `d`; KEYS `a  a`
abbrev pub three_and_one : AppendOutcome
three_and_one = sent 1 (keys (100 ∷ [])) (sent 0 (keys (97 ∷ 32 ∷ 98 ∷ 32 ∷ 99 ∷ [])) empty)

abbrev pub twice : AppendOutcome
twice = sent 0 (keys (97 ∷ 32 ∷ 32 ∷ 97 ∷ [])) empty

-- a call with this budget from the start
abbrev pub ran : ℕ → AppendOutcome → Ran State
ran budget o =
    call dispatcher
    (record {
      fixed = record {
        sizes = record { geometry = geometry; queue_entries = 2; index = record { slot_count = 2; item_count = 4 } };
        directory = 9 ∷ 0 ∷ 1 ∷ 0 ∷ 0 ∷ 0 ∷ 0 ∷ 0 ∷ 84 ∷ [];
      };
      view = record { log = o.log; end = o.made.write_position };
      budget = budget;
    })
    (record { progress = record { position = record { 0 = 0 } }; counts = replicate 16 0; queues = replicate 40 0; index = fresh })

-- the answer's number, the steps, the position, the first queue's count and the used count after it
abbrev pub dispatched : ℕ → AppendOutcome → List ℕ
dispatched budget o =
    let r = ran budget o in
    number_of r.answer ∷ r.steps ∷ position_of r.state ∷ get_or r.state.counts 0 0 ∷ used_count r.state.index ∷ []

-- the index after a record with the unique key k
abbrev pub after_k : List ℕ
after_k = (ran 18446744073709551615 (sent 0 unique_key_k empty)).state.index

unfoldable pub bench : List Row
bench =
    -- "bytes of `Aa` and `BB` both hash to 2112"
    record { given = hashed (65 ∷ 97 ∷ []); wanted = 0 ∷ 2112 ∷ [] }
    ∷ record { given = hashed (66 ∷ 66 ∷ []); wanted = 0 ∷ 2112 ∷ [] }
    -- "`ab` to 3105"
    ∷ record { given = hashed (97 ∷ 98 ∷ []); wanted = 0 ∷ 3105 ∷ [] }
    -- "`T#k` to 81916", as bytes and as the index hash of topic T and key k
    ∷ record { given = hashed (84 ∷ 35 ∷ 107 ∷ []); wanted = 0 ∷ 81916 ∷ [] }
    ∷ record { given = index_hash (84 ∷ []) (107 ∷ []) ∷ []; wanted = 81916 ∷ [] }
    -- "nothing to 0"
    ∷ record { given = hashed []; wanted = 0 ∷ 0 ∷ [] }
    -- "C3 A9 now gives 233, not 6214"
    ∷ record { given = hashed (195 ∷ 169 ∷ []); wanted = 0 ∷ 233 ∷ [] }
    -- "`polygenelubricants` hashes to −2,147,483,648"
    ∷ record { given = hashed polygenelubricants; wanted = 1 ∷ 2147483648 ∷ [] }
    -- "as a tag its code is FF FF FF FF 80 00 00 00"
    ∷ record { given = bytes_of big 8 (tag_code polygenelubricants); wanted = 255 ∷ 255 ∷ 255 ∷ 255 ∷ 128 ∷ 0 ∷ 0 ∷ 0 ∷ [] }
    -- "the index's absolute value of that number is 0"
    ∷ record { given = absolute (signed (hash_of polygenelubricants)) ∷ []; wanted = 0 ∷ [] }
    -- "r = 100: total 92 fits; 93 rolls"
    ∷ record { given = appended_at924 []; wanted = 0 ∷ 1016 ∷ [] }
    ∷ record { given = appended_at924 (65 ∷ []); wanted = 7 ∷ 1024 ∷ [] }
    -- "first time 10,000: store time 10,999 gives 0 seconds, 11,000 gives 1, 9,000 gives 0"
    ∷ record { given = seconds_of 10000 10999 ∷ seconds_of 10000 11000 ∷ seconds_of 10000 9000 ∷ []; wanted = 0 ∷ 1 ∷ 0 ∷ [] }
    -- "item 1 at byte 68 is 00 01 3F FC and 16 zeros"
    ∷ record { given = part 20 68 after_k; wanted = 0 ∷ 1 ∷ 63 ∷ 252 ∷ replicate 16 0 }
    -- "slot 0 is 1; filled slots 1, used count 2"
    ∷ record {
      given = slot_value after_k 0 ∷ filled_slots after_k ∷ used_count after_k ∷ [];
      wanted = 1 ∷ 1 ∷ 2 ∷ [];
    }
    -- "N = 4 takes three items; the fourth is 14": KEYS `a b c`, and then KEYS `d` of a record at 92
    ∷ record { given = checked 0 (keys (97 ∷ 32 ∷ 98 ∷ 32 ∷ 99 ∷ [])) fresh; wanted = 0 ∷ [] }
    ∷ record { given = checked 92 (keys (100 ∷ [])) (indexed 0 (keys (97 ∷ 32 ∷ 98 ∷ 32 ∷ 99 ∷ [])) fresh); wanted = 14 ∷ [] }
    -- the same by dispatch: the first record is filed, the second is stopped
    ∷ record { given = dispatched 18446744073709551615 three_and_one; wanted = 14 ∷ 1 ∷ 102 ∷ 1 ∷ 4 ∷ [] }
    -- "KEYS `a  a` makes two items"
    ∷ record { given = length (item_keys (keys (97 ∷ 32 ∷ 32 ∷ 97 ∷ []))) ∷ []; wanted = 2 ∷ [] }
    ∷ record { given = dispatched 18446744073709551615 twice; wanted = 0 ∷ 1 ∷ 101 ∷ 1 ∷ 3 ∷ [] }
    -- "budget 0 gives 9"
    ∷ record { given = dispatched 0 twice; wanted = 9 ∷ 0 ∷ 0 ∷ 0 ∷ 1 ∷ [] }
    ∷ []

abbrev pub BenchHolds : Type 0
BenchHolds = Holds bench
