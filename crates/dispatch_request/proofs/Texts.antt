-- What is known of the texts of a sound record, one by one. Assumes nothing.
use Prim.Native.Nat.{ℕ, ◌+◌, ◌-◌}
use mathlib.Core.Path.{◌≡◌, sym, ◌∙◌, ap}
use mathlib.Core.Bool.{Bool, true, ◌&&◌}
use mathlib.Core.List.{List, [], ◌∷◌, map}
use lib.ListN.{take, drop}
use Rattle.codec.specs.Lists.{All}
use Rattle.codec.proofs.Choices.{both}
use Rattle.units.specs.declared.Place.{Place}
use Rattle.utf8.specs.Utf8.{valid, plain, Known}
use Rattle.utf8.proofs.Plains.{plain_part}
use Rattle.properties.specs.declared.Found.{Found}
use Rattle.properties.specs.declared.Text.{Text}
use Rattle.properties.specs.Parts.{bytes_at}
use Rattle.properties.specs.Finder.{scanned, found_bytes}
use Rattle.properties.specs.Keys.{key_places}
use Rattle.properties.proofs.KeyTexts.{keys_valid}
use Rattle.dispatch_request.specs.Request.{keys_at}
use Rattle.record.specs.Record.{values_valid, text_rules}
use Rattle.record.specs.Judging.{text_of, TextKnown}
use Rattle.record.proofs.TextRules.{found_plain}

module _ {topic properties : List ℕ} {t : Text} (k : TextKnown topic properties t) where
  pub text_values : t.values ≡ scanned properties
  unfolding text_of
  text_values = ap (λ (x : Text). x.values) k.is

  text_plain : t.plain ≡ true → (plain topic && plain properties) ≡ true
  unfolding text_of
  text_plain e = sym (ap (λ (x : Text). x.plain) k.is) ∙ e

  rules : (valid topic && values_valid t.values properties) ≡ true
  unfolding text_rules
  rules = rw text_values k.rules

  each : ((valid (found_bytes t.values.tags properties) && valid (found_bytes t.values.keys properties)) && valid (found_bytes t.values.unique_key properties)) ≡ true
  unfolding values_valid
  each = (both (valid topic) (values_valid t.values properties) rules).1

  value_known : (f : Found) → valid (found_bytes f properties) ≡ true → Known t.plain (found_bytes f properties)
  value_known f e = record { text = e; own = λ so. found_plain f properties (both (plain topic) (plain properties) (text_plain so)).1 }

  pub topic_known : Known t.plain topic
  topic_known = record { text = (both (valid topic) (values_valid t.values properties) rules).0; own = λ so. (both (plain topic) (plain properties) (text_plain so)).0 }

  first_two : ((valid (found_bytes t.values.tags properties) && valid (found_bytes t.values.keys properties)) ≡ true) × (valid (found_bytes t.values.unique_key properties) ≡ true)
  first_two = both (valid (found_bytes t.values.tags properties) && valid (found_bytes t.values.keys properties)) (valid (found_bytes t.values.unique_key properties)) each

  two : (valid (found_bytes t.values.tags properties) ≡ true) × (valid (found_bytes t.values.keys properties) ≡ true)
  two = both (valid (found_bytes t.values.tags properties)) (valid (found_bytes t.values.keys properties)) first_two.0

  pub tags_known : Known t.plain (found_bytes t.values.tags properties)
  tags_known = value_known t.values.tags two.0

  pub keys_known : Known t.plain (found_bytes t.values.keys properties)
  keys_known = value_known t.values.keys two.1

  pub unique_key_known : Known t.plain (found_bytes t.values.unique_key properties)
  unique_key_known = value_known t.values.unique_key first_two.1

-- the keys of a text that is known are known
abbrev pub KeysKnown : Bool → List (List ℕ) → Type 0
KeysKnown so keys = All (λ (key : List ℕ). Known so key) keys

pub keys_all_known : (so : Bool) (v : List ℕ) → Known so v → KeysKnown so (keys_at (key_places v) v)
unfolding keys_at bytes_at
keys_all_known so v k = go (key_places v) (keys_valid v k.text)
  where
    known : (p : Place) → valid (bytes_at p v) ≡ true → Known so (bytes_at p v)
    known p e = record { text = e; own = λ q. plain_part p.len p.at v (k.own q) }

    go : (ps : List Place) → All (λ (p : Place). valid (bytes_at p v) ≡ true) ps → KeysKnown so (map (λ p. bytes_at p v) ps)
    go [] h = tt
    go (p ∷ ps) h = (known p h.0, go ps h.1)

-- topic and properties as they are lent
pub text_lent : {topic properties a b : List ℕ} {t : Text} → topic ≡ a → properties ≡ b → TextKnown a b t → TextKnown topic properties t
text_lent e f k = rw (e, f) k
