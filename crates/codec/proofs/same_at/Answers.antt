-- `codec::same_at` meets its contract. Assumes nothing.
use Prim.Native.Nat.{◌+◌, ◌-◌}
use mathlib.Core.Bool.{◌&&◌, true}
use lib.ListN.{length, take, drop}
use Rattle.std.specs.Prelude.{◌==◌}
use Rattle.std.proofs.Common.{rules}
use Rattle.std.proofs.lemmas.Iterator.{YieldsList-from_slice, YieldsList-from_zip}
use Rattle.std.proofs.lemmas.Iterator.Consumers.{fold_from_yields_List}
use Rattle.codec.proofs.Equal.{same_folded}
use Rattle.codec.proofs.same_at.Goals as goal

pub returns : goal.returns
returns c =
    let at = c.args.at in
    let piece = c.args.piece.now in
    same_folded at c.args.s.now piece c.requires
    (fold_from_yields_List _ (λ t p. t && (p.0 == p.1)) true _ c.fold.ensures.ran
    (YieldsList-from_zip (YieldsList-from_slice (take (at + length piece - at) (drop at c.args.s.now)) cc) (YieldsList-from_slice piece cc)) (λ a x b q k. search rules))
