-- `dispatch_request::tag_of` meets its contract. Assumes nothing.
use Rattle.properties.specs.Finder.{tags_name}
use Rattle.properties.proofs.Places.{finder_inside}
use Rattle.dispatch_request.proofs.Duties.{tag_coded}
use Rattle.dispatch_request.proofs.tag_of.Goals as goal

pub value-requires : goal.value-requires
value-requires c = rw c.requires.0 (finder_inside tags_name c.args.properties.now)

pub tag_code-requires : goal.tag_code-requires
tag_code-requires c = rw c.value.ensures c.requires.1

pub returns : goal.returns
returns c = tag_coded _ _ _ c.value.ensures c.tag_code.ensures
