-- `utf8::plain_bytes` meets its contract: what was found of all bytes. Assumes nothing.
use Rattle.std.proofs.Common.{ltb, true, ◌&&◌, rules}
use Rattle.std.proofs.lemmas.Iterator.{YieldsList-from_slice}
use Rattle.std.proofs.lemmas.Iterator.Consumers.{fold_from_yields_List}
use Rattle.utf8.proofs.Plains.{all_plain}
use Rattle.utf8.proofs.plain_bytes.Goals as goal

pub returns : goal.returns
returns c = all_plain _ (fold_from_yields_List _ (λ w b. w && ltb b 128) true _ c.fold.ensures.ran (YieldsList-from_slice c.args.s.now cc) (λ a x b q k. search rules))
