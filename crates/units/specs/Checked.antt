-- An answer of which Done is no refusal, as a Result. Assumes nothing.
use Rattle.std.specs.Prelude.{Result, Ok, Err}
use Rattle.units.specs.declared.Answer.{Answer}
use Rattle.units.specs.declared.Answer.TheVariants.{Done}

unfoldable pub checked : Answer → Result (Unit {0}) Answer
checked Done = Ok tt
checked a = Err a
