-- `directory::row_ok` meets its contract: the head is read once, and its tests are the definition's. Assumes nothing.
use Rattle.directory.proofs.Reading.{row_short, row_judged}
use Rattle.directory.proofs.row_ok.Goals as goal

pub returns-then-bytes-lt-TOPIC : goal.returns-then-bytes-lt-TOPIC
returns-then-bytes-lt-TOPIC c = row_short _ c.if-bytes-lt-TOPIC.true

pub returns : goal.returns
returns c = row_judged _ c.if-bytes-lt-TOPIC.false c.get_le-size.ensures.0 c.get_u16_le-kind.ensures c.get_u32_le-id.ensures
