-- What the report's own function promised, as the C function's numbers. Assumes nothing.
use Prim.Native.Nat.{ℕ}
use mathlib.Core.Path.{◌≡◌, ◌∙◌, ap}
use mathlib.Core.List.{List}
use Rattle.units.specs.declared.Answer.{Answer}
use Rattle.units.specs.Answers.{number_of}
use Rattle.commit_log.specs.declared.Geometry.{Geometry}
use Rattle.shift_report.specs.Report.{shift_report}
use Rattle.interface.specs.Structs.{position, geometry_in}
use Rattle.swistopal_stretch.specs.Reported.{report_gives, report}

pub report_made : (sizes log : List ℕ) (p end : ℕ) (directory : List ℕ) {g : Geometry} (a : Answer) (figures : List ℕ) (n : ℕ) → g ≡ geometry_in sizes
    → record { answer = a; figures = figures } ≡ shift_report log g (position p) (position end) directory → n ≡ number_of a
    → record { answer = n; figures = figures } ≡ report sizes log p end directory
unfolding report report_gives
report_made sizes log p end directory a figures n g e h =
    (λ i. record { answer = h i; figures = figures })
    ∙ ap report_gives e
    ∙ (λ i. report_gives (shift_report log (g i) (position p) (position end) directory))
