-- Sizes from their parts. Assumes nothing.
use Prim.Native.Nat.{ℕ}
use mathlib.Core.Path.{◌≡◌}
use mathlib.Core.List.{List}
use Rattle.commit_log.specs.declared.Geometry.{Geometry}
use Rattle.index_file.specs.declared.IndexSizes.{IndexSizes}
use Rattle.interface.specs.Structs.{geometry_in, queue_entries_in, index_sizes_in, sizes_in}

pub sizes_made : {g : Geometry} {n : ℕ} {z : IndexSizes} (sizes : List ℕ) → g ≡ geometry_in sizes → n ≡ queue_entries_in sizes → z ≡ index_sizes_in sizes
    → record { geometry = g; queue_entries = n; index = z } ≡ sizes_in sizes
unfolding sizes_in
sizes_made sizes e f h = λ i. record { geometry = e i; queue_entries = f i; index = h i }
