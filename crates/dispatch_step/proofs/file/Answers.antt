-- `dispatch_step::file` meets its contract: a stop by rule 6, a stop by rule 7, or entry and items are written. Assumes nothing.
use mathlib.Core.Path.{◌≡◌, sym, ◌∙◌}
use native.Mathlib.Omega.{arith}
use Rattle.std.proofs.Common.{Err, rules}
use Rattle.units.proofs.Checked.{checked_passed}
use Rattle.consume_queue.proofs.Entering.{enterable_of}
use Rattle.index_file.proofs.Items.{checked_room}
use Rattle.dispatch_step.proofs.Filing.{file_halted, file_broken, file_done}
use Rattle.dispatch_step.proofs.file.Goals as goal

pub returns-in_err-entry_answer : goal.returns-in_err-entry_answer
returns-in_err-entry_answer c =
    let stop : c.from_residual.result ≡ Err c.in_err-entry_answer.field-0.0 = search rules in
    rw stop (file_halted _ _ _ _ (sym c.in_err-entry_answer.was ∙ c.entry_answer.ensures))

pub items_answer-requires : goal.items_answer-requires
items_answer-requires c = let p = c.requires in (p.sized, p.few, p.good)

pub returns-in_err-items_answer : goal.returns-in_err-items_answer
returns-in_err-items_answer c =
    let stop : c.from_residual-in_err-items_answer.result ≡ Err c.in_err-items_answer.field-0.0 = search rules in
    rw stop (file_broken _ _ _ _ (sym c.in_ok-entry_answer.was ∙ c.entry_answer.ensures) (sym c.in_err-items_answer.was ∙ c.items_answer.ensures))

pub enter-requires : goal.enter-requires
enter-requires c =
    let p = c.requires in
    (λ m. enterable_of _ _ _ _ _ _ p.entries p.counted p.row p.region (checked_passed _ (sym c.in_ok-entry_answer.was ∙ c.entry_answer.ensures)) m, p.most)

pub put_all-requires : goal.put_all-requires
put_all-requires c =
    checked_room _ _ _ _ _ c.requires.sized (checked_passed _ (sym c.in_ok-items_answer.was ∙ c.items_answer.ensures))

pub returns : goal.returns
returns c =
    file_done _ _ _ _ (sym c.in_ok-entry_answer.was ∙ c.entry_answer.ensures) (sym c.in_ok-items_answer.was ∙ c.items_answer.ensures)
    c.enter.ensures.1 c.enter.ensures.0 c.put_all.ensures (omega arith)
