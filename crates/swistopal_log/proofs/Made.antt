-- What the layer's function promised, as the C function's numbers. Assumes nothing.
use Prim.Native.Nat.{ℕ}
use mathlib.Core.Path.{◌≡◌, ◌∙◌, ap}
use mathlib.Core.List.{List}
use Rattle.units.specs.declared.Answer.{Answer}
use Rattle.units.specs.Answers.{number_of}
use Rattle.record.specs.Reading.{Told, told}
use Rattle.record_writer.specs.Encode.{RecordParts}
use Rattle.record_writer.specs.Writing.{fields_in}
use Rattle.commit_log.specs.declared.Geometry.{Geometry}
use Rattle.commit_log.specs.declared.Appended.{Appended}
use Rattle.commit_log.specs.Log.{entry_in, appended}
use Rattle.interface.specs.Structs.{position, geometry_in}
use Rattle.swistopal_log.specs.Log.{append_gives, append, Appends, read_gives, read_record}

pub append_made : (sizes fields : List ℕ) (parts : RecordParts) (log : List ℕ) (w : ℕ) {g : Geometry} (r : Appended) (log' : List ℕ) (n : ℕ)
    → g ≡ geometry_in sizes → record { made = r; log = log' } ≡ appended log g (position w) (fields_in fields) parts → n ≡ number_of r.answer
    → Appends sizes fields parts log w n log' r.write_position.0
unfolding append append_gives
append_made sizes fields parts log w r log' n g e h =
    (λ i. record { answer = h i; log = log'; write_position = r.write_position.0 })
    ∙ ap append_gives e
    ∙ (λ i. append_gives (appended log (g i) (position w) (fields_in fields) parts))

pub record_read : (sizes log : List ℕ) (p end : ℕ) {g : Geometry} (a : Answer) (out : List ℕ) (n : ℕ) → g ≡ geometry_in sizes
    → record { answer = a; out = out } ≡ told (entry_in log g (position p) (position end)) → n ≡ number_of a
    → record { answer = n; «record» = out } ≡ read_record sizes log p end
unfolding told read_record read_gives
record_read sizes log p end a out n g t h =
    (λ i. record { answer = h i; «record» = out })
    ∙ ap (λ (x : Told). record { answer = number_of x.answer; «record» = x.out }) t
    ∙ (λ i. read_gives (entry_in log (g i) (position p) (position end)))
