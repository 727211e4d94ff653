-- `index_file::Index::open` meets its contract: sizes, then header, and what they say of the index. Assumes nothing.
use mathlib.Core.Path.{sym, ◌∙◌}
use Rattle.index_file.proofs.Judged.{sizes_facts, sizes_long, refused_sizes, refused_header, not_refused, open_facts}
use Rattle.index_file.proofs.Index.open.Goals as goal

pub returns-then-not-sizes_ok-clause-refused : goal.returns-then-not-sizes_ok-clause-refused
returns-then-not-sizes_ok-clause-refused c = refused_sizes _ _ _ c.sizes_ok.ensures c.if-not-sizes_ok.true

pub header_sound-requires : goal.header_sound-requires
header_sound-requires c = sizes_long _ _ _ c.sizes_ok.ensures c.if-not-sizes_ok.false

pub returns-then-not-header_sound-clause-refused : goal.returns-then-not-header_sound-clause-refused
returns-then-not-header_sound-clause-refused c = refused_header _ _ _ c.sizes_ok.ensures c.if-not-sizes_ok.false c.header_sound.ensures c.if-not-header_sound.true

pub invariant_of-slots : goal.invariant_of-slots
invariant_of-slots c =
    let f = sizes_facts _ _ _ (sym c.sizes_ok.ensures ∙ c.if-not-sizes_ok.false) in
    record { some = f.0.some; most = f.0.most }

pub invariant_of-result : goal.invariant_of-result
invariant_of-result c =
    let f = open_facts _ _ _ c.sizes_ok.ensures c.if-not-sizes_ok.false c.header_sound.ensures c.if-not-header_sound.false in
    record { items_within = f.0; few_items = f.1; time_within = f.2 }

pub returns-clause-refused : goal.returns-clause-refused
returns-clause-refused c = not_refused _ _ _ c.sizes_ok.ensures c.if-not-sizes_ok.false c.header_sound.ensures c.if-not-header_sound.false
