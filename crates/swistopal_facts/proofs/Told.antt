-- What the layer's function promised, as the C function tells it. Assumes nothing.
use Prim.Native.Nat.{ℕ}
use mathlib.Core.Path.{◌≡◌, refl, ◌∙◌, ap}
use mathlib.Core.Bool.{Bool, true, false, not}
use mathlib.Core.List.{List, [], ◌∷◌}
use lib.ListN.{length}
use Rattle.std.proofs.Common.{Some, None}
use Rattle.std.specs.Option.{unwrap_or}
use Rattle.codec.specs.Choice.{pick}
use Rattle.units.specs.declared.Answer.{Answer}
use Rattle.units.specs.declared.Answer.TheVariants.{Done, BadSizes, BadHeader}
use Rattle.units.specs.declared.Place.{Place}
use Rattle.units.specs.Answers.{number_of}
use Rattle.std.specs.Prelude.{Option}
use Rattle.std.specs.Option.{UnwrapsOrElse}
use Rattle.properties.specs.declared.Found.{Found}
use Rattle.properties.specs.declared.Found.TheVariants.{Absent, One, Many}
use Rattle.properties.specs.declared.Scanned.{Scanned}
use Rattle.properties.specs.Finder.{found_place}
use Rattle.index_file.specs.declared.IndexSizes.{IndexSizes}
use Rattle.index_file.specs.Index.{sizes_ok, header_sound, index_refusal}
use Rattle.listing.specs.declared.Listed.{Listed}
use Rattle.listing.specs.Listing.{ListOutcome}
use Rattle.interface.specs.Structs.{index_sizes_in}
use Rattle.swistopal_facts.specs.Facts.{place_of, values_of, index_answer, list}

-- the place of what is found, where a place by default is empty
pub placed : {Empty : Place → Type 0} → ((r : Place) → Empty r → (r.at ≡ 0) × (r.len ≡ 0)) → (f : Found) {o : Option Place} (r : Place) → o ≡ found_place f → UnwrapsOrElse o Empty r → r ≡ place_of f
unfolding found_place place_of
placed empty Absent r e u = let z = empty r (rw e at u) in λ i. record { at = z.0 i; len = z.1 i }
placed empty (One p) r e u = rw e at u
placed empty (Many p) r e u = rw e at u

pub values_made : (s : Scanned) {s' : Scanned} {t k u : Place} → s' ≡ s → t ≡ place_of s'.tags → k ≡ place_of s'.keys → u ≡ place_of s'.unique_key
    → ◌≡◌ {A = List ℕ} (t.at ∷ t.len ∷ k.at ∷ k.len ∷ u.at ∷ u.len ∷ []) (values_of s)
unfolding values_of
values_made s e a b c =
    (λ i. (a i).at ∷ (a i).len ∷ (b i).at ∷ (b i).len ∷ (c i).at ∷ (c i).len ∷ [])
    ∙ ap values_of e

-- ---- the check of an index file

module _ (z : IndexSizes) (index : List ℕ) where
  -- what an index is refused with, or that it is in order
  pub index_told : index_answer z index ≡ unwrap_or (index_refusal z.slot_count z.item_count index) Done
  unfolding index_answer index_refusal pick
  index_told = go (sizes_ok z.slot_count z.item_count (length index)) (header_sound z.item_count index)
    where
      go : (s h : Bool) → pick (not s) BadSizes (pick (not h) BadHeader Done) ≡ unwrap_or (pick s (pick h None (Some BadHeader)) (Some BadSizes)) Done
      go true true = refl
      go true false = refl
      go false h = refl

pub index_checked : (sizes index : List ℕ) {z : IndexSizes} {a : Answer} {n : ℕ} → z ≡ index_sizes_in sizes → a ≡ index_answer z index → n ≡ number_of a
    → n ≡ number_of (index_answer (index_sizes_in sizes) index)
index_checked sizes index e f h = h ∙ ap number_of (f ∙ ap (λ (z : IndexSizes). index_answer z index) e)

-- ---- the lister

pub list_made : (r : Listed) (text : List ℕ) (n : ℕ) (o : ListOutcome) → record { made = r; text = text } ≡ o → n ≡ number_of r.answer
    → record { answer = n; text = text; written = r.written } ≡ list o
unfolding list
list_made r text n o e h = (λ i. record { answer = h i; text = text; written = r.written }) ∙ ap list e
