-- What the further C functions tell. Assumes nothing.
use Rattle.std.specs.Prelude.{ℕ, not, List, [], ◌∷◌, length}
use Rattle.codec.specs.Choice.{pick}
use Rattle.units.specs.declared.Place.{Place}
use Rattle.units.specs.declared.Answer.{Answer}
use Rattle.units.specs.declared.Answer.TheVariants.{Done, BadSizes, BadHeader}
use Rattle.units.specs.Answers.{number_of}
use Rattle.properties.specs.declared.Found.{Found}
use Rattle.properties.specs.declared.Found.TheVariants.{Absent, One, Many}
use Rattle.properties.specs.declared.Scanned.{Scanned}
use Rattle.index_file.specs.declared.IndexSizes.{IndexSizes}
use Rattle.index_file.specs.Index.{sizes_ok, header_sound}
use Rattle.listing.specs.Listing.{ListOutcome}

-- the place of a value, 0 and 0 where there is none
unfoldable pub place_of : Found → Place
place_of Absent = record { at = 0; len = 0 }
place_of (One p) = p
place_of (Many p) = p

-- `swistopal_values`: place and length of tags, keys, unique_key
unfoldable pub values_of : Scanned → List ℕ
values_of s =
    let tags = place_of s.tags in
    let keys = place_of s.keys in
    let unique = place_of s.unique_key in
    tags.at ∷ tags.len ∷ keys.at ∷ keys.len ∷ unique.at ∷ unique.len ∷ []

-- the door of an index file, 1 before 4
unfoldable pub index_answer : IndexSizes → List ℕ → Answer
index_answer z index =
    pick (not (sizes_ok z.slot_count z.item_count (length index))) BadSizes
    (pick (not (header_sound z.item_count index)) BadHeader Done)

-- ---- the lister

pub record List' : Type 0 where
  pub answer : ℕ
  pub text : List ℕ
  pub written : ℕ

unfoldable pub list : ListOutcome → List'
list o = record { answer = number_of o.made.answer; text = o.text; written = o.made.written }
