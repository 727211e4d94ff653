-- `lister::main` is safe: what is said to be written lies in the buffer. Assumes nothing.
use Rattle.std.proofs.Common.{◌≤◌, ◌≡◌, length, ℕ, List}
use Rattle.std.proofs.lemmas.List.{length-take-le}
use mathlib.Core.Path.{sym, subst}
use Rattle.listing.specs.declared.Listed.{Listed}
use Rattle.listing.specs.Listing.{ListOutcome, listing}
use Rattle.listing.proofs.Laws.{written_fits}
use Rattle.lister.proofs.main.Goals as goal

fits : {made : Listed} {text : List ℕ} (segment buffer : List ℕ) → record { made = made; text = text } ≡ listing segment buffer → made.written ≤ length text
fits segment buffer is = subst (λ (o : ListOutcome). o.made.written ≤ length o.text) (sym is) (written_fits segment buffer)

pub slice_bounds-text-end : goal.slice_bounds-text-end
slice_bounds-text-end c = fits _ _ c.list-listed.ensures

pub slice_bounds-write_all-end : goal.slice_bounds-write_all-end
slice_bounds-write_all-end c = sym (length-take-le _ _ (fits _ _ c.list-listed.ensures))
