-- Worked examples of the shift report, as data like the bench's: document 02, item 1. Assumes nothing.
use Rattle.std.specs.Prelude.{ℕ, List, [], ◌∷◌, ◌++◌, replicate}
use Rattle.units.specs.declared.Answer.TheVariants.{Done}
use Rattle.units.specs.Answers.{number_of}
use Rattle.record_writer.specs.Encode.{parts_of}
use Rattle.commit_log.specs.Log.{AppendOutcome, append_outcome, appended}
use Rattle.shift_report.specs.Report.{shift_report}
use Rattle.acceptance.specs.Bench.{Row, Holds, geometry, keys, unique_key_k, empty}
use Rattle.acceptance.specs.Examples.{directory_row}

-- the log and its readable end after a record of topic T with this queue id, system flag, body and properties
abbrev pub report_sent : ℕ → ℕ → List ℕ → List ℕ → AppendOutcome → AppendOutcome
report_sent id flag body properties o =
    appended o.log geometry o.made.write_position
    (record {
      body_crc = 0;
      queue_id = id;
      flag = 0;
      queue_offset = record { 0 = 0 };
      system_flag = flag;
      born_time = 0;
      store_time = 10000;
      reconsume_times = 0;
      prepared_offset = 0;
    }) (parts_of (replicate 8 0) (replicate 8 0) body (84 ∷ []) properties)

-- queue 0 of topic T
abbrev pub queue_zero : List ℕ
queue_zero = directory_row 1 0 (84 ∷ [])

-- the answer's number and the figures from a position to an end
abbrev pub reported : List ℕ → ℕ → ℕ → AppendOutcome → List ℕ
reported directory position end o =
    let r = shift_report o.log geometry (record { 0 = position }) (record { 0 = end }) directory in number_of r.answer ∷ r.figures

-- the number, the five totals, the records of row 0, of rows 1 to 15, of queues that are not listed, of each type, the items
abbrev pub figured : ℕ → List ℕ → ℕ → ℕ → List ℕ → ℕ → List ℕ
figured answer totals zeroth unlisted types items = answer ∷ totals ++ zeroth ∷ replicate 15 0 ++ unlisted ∷ types ++ items ∷ []

abbrev pub none : ℕ → List ℕ
none answer = answer ∷ replicate 27 0

-- a rollback with KEYS `a`, 98 bytes
abbrev pub rolled_back : AppendOutcome
rolled_back = report_sent 0 12 [] (keys (97 ∷ [])) empty

-- KEYS `a  a` and a body of 3 bytes, 104 in all; then a prepared one of queue 3 with the unique key k, 102 bytes
abbrev pub two : AppendOutcome
two = report_sent 3 4 [] unique_key_k (report_sent 0 0 (1 ∷ 2 ∷ 3 ∷ []) (keys (97 ∷ 32 ∷ 32 ∷ 97 ∷ [])) empty)

-- 932 bytes of the first of two segments, then a blank: a record of 93 bytes rolls
abbrev pub rolled : AppendOutcome
rolled =
    appended (replicate 2048 0) geometry (record { 0 = 924 })
    (record {
      body_crc = 0;
      queue_id = 0;
      flag = 0;
      queue_offset = record { 0 = 0 };
      system_flag = 0;
      born_time = 0;
      store_time = 10000;
      reconsume_times = 0;
      prepared_offset = 0;
    }) (parts_of (replicate 8 0) (replicate 8 0) (1 ∷ []) (84 ∷ []) [])

unfoldable pub report_examples : List Row
report_examples =
    -- records of a listed queue are of any type; a rollback's items are none
    record { given = reported queue_zero 0 98 rolled_back; wanted = figured 0 (1 ∷ 0 ∷ 0 ∷ 98 ∷ 98 ∷ []) 1 0 (0 ∷ 0 ∷ 0 ∷ 1 ∷ []) 0 }
    -- "an unlisted queue goes into one figure of its own"; its items count, a prepared record's too
    ∷ record { given = reported queue_zero 0 206 two; wanted = figured 0 (2 ∷ 0 ∷ 3 ∷ 102 ∷ 104 ∷ []) 1 1 (1 ∷ 1 ∷ 0 ∷ 0 ∷ []) 3 }
    -- from the second record on; at the readable end
    ∷ record { given = reported queue_zero 104 206 two; wanted = figured 0 (1 ∷ 0 ∷ 0 ∷ 102 ∷ 102 ∷ []) 0 1 (0 ∷ 1 ∷ 0 ∷ 0 ∷ []) 1 }
    ∷ record { given = reported queue_zero 206 206 two; wanted = none 0 }
    -- a stop keeps the figures before it: a record that is not wholly readable, and zeros
    ∷ record { given = reported queue_zero 0 205 two; wanted = figured 8 (1 ∷ 0 ∷ 3 ∷ 104 ∷ 104 ∷ []) 1 0 (1 ∷ 0 ∷ 0 ∷ 0 ∷ []) 2 }
    ∷ record { given = reported queue_zero 0 1024 rolled_back; wanted = figured 10 (1 ∷ 0 ∷ 0 ∷ 98 ∷ 98 ∷ []) 1 0 (0 ∷ 0 ∷ 0 ∷ 1 ∷ []) 0 }
    -- a blank is no record: "With no record, smallest and largest are both 0"
    ∷ record { given = reported queue_zero 924 1024 rolled; wanted = figured 0 (0 ∷ 1 ∷ 0 ∷ 0 ∷ 0 ∷ []) 0 0 (0 ∷ 0 ∷ 0 ∷ 0 ∷ []) 0 }
    -- "Door: 1, 3 (directory), 2", and every figure 0
    ∷ record { given = reported [] 206 0 two; wanted = none 3 }
    ∷ record { given = reported queue_zero 206 0 two; wanted = none 2 }
    ∷ record { given = reported [] 206 0 (append_outcome Done (record { 0 = 0 }) (replicate 1023 0)); wanted = none 1 }
    ∷ []

abbrev pub ReportsHold : Type 0
ReportsHold = Holds report_examples
