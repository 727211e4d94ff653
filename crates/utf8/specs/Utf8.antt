-- UTF-8 as RFC 3629 gives it, and the UTF-16 units of a text (RFC 2781). Quotations are from these two. Assumes nothing.
use Rattle.std.specs.Prelude.{ℕ, zero, suc, ◌+◌, ◌*◌, ◌-◌, ◌/◌, ◌%◌, ◌≤◌, ◌≡◌, Bool, true, false, ◌&&◌, ◌||◌, List, [], ◌∷◌, ◌++◌, ltb, leb, eqb, length, get_or, drop, Option, Some, None, IfSome}
use Rattle.codec.specs.Choice.{pick}
use Rattle.utf8.specs.declared.Char.{Char}

-- ---- the bytes of a character: RFC 3629, section 4

-- "%x80-BF", a range of bytes
unfoldable pub range : ℕ → ℕ → ℕ → Bool
range low high b = leb low b && leb b high

-- "UTF8-tail = %x80-BF"
unfoldable pub tail : ℕ → Bool
tail b = range 128 191 b

-- "UTF8-1 = %x00-7F"
unfoldable pub one : ℕ → Bool
one a = range 0 127 a

-- "UTF8-2 = %xC2-DF UTF8-tail"
unfoldable pub two : ℕ → ℕ → Bool
two a b = range 194 223 a && tail b

-- "UTF8-3 = %xE0 %xA0-BF UTF8-tail / %xE1-EC 2( UTF8-tail ) / %xED %x80-9F UTF8-tail / %xEE-EF 2( UTF8-tail )"
unfoldable pub three : ℕ → ℕ → ℕ → Bool
three a b c =
    ((range 224 224 a && range 160 191 b) && tail c)
    || (((range 225 236 a && tail b) && tail c)
    || (((range 237 237 a && range 128 159 b) && tail c)
    || ((range 238 239 a && tail b) && tail c)))

-- "UTF8-4 = %xF0 %x90-BF 2( UTF8-tail ) / %xF1-F3 3( UTF8-tail ) / %xF4 %x80-8F 2( UTF8-tail )"
unfoldable pub four : ℕ → ℕ → ℕ → ℕ → Bool
four a b c d =
    (((range 240 240 a && range 144 191 b) && tail c) && tail d)
    || ((((range 241 243 a && tail b) && tail c) && tail d)
    || (((range 244 244 a && range 128 143 b) && tail c) && tail d))

-- ---- the number of a character: the table of section 3, "the letter x indicates bits available for encoding bits of the character number"

-- so many bytes, and the number
abbrev pub char : ℕ → ℕ → Char
char size code = record { size = size; code = code }

-- no character stands here
abbrev pub none : Char
none = char 0 0

-- the character at the front of four bytes
unfoldable pub first : ℕ → ℕ → ℕ → ℕ → Char
first a b c d =
    -- "0000 0000-0000 007F | 0xxxxxxx"
    pick (one a) (char 1 a)
    -- "0000 0080-0000 07FF | 110xxxxx 10xxxxxx"
    (pick (two a b) (char 2 (a % 32 * 64 + b % 64))
    -- "0000 0800-0000 FFFF | 1110xxxx 10xxxxxx 10xxxxxx"
    (pick (three a b c) (char 3 ((a % 16 * 64 + b % 64) * 64 + c % 64))
    -- "0001 0000-0010 FFFF | 11110xxx 10xxxxxx 10xxxxxx 10xxxxxx"
    (pick (four a b c d) (char 4 (((a % 8 * 64 + b % 64) * 64 + c % 64) * 64 + d % 64)) none)))

-- the character at the front of a text that is not empty; past its end 0 is read, which is no UTF8-tail: a cut character is none
unfoldable pub front : List ℕ → Char
front l = first (get_or l 0 0) (get_or l 1 0) (get_or l 2 0) (get_or l 3 0)

-- a character, if it is one
unfoldable pub found : Char → Option Char
found c = pick (eqb c.size 0) None (Some c)

-- what decoding at a place gives
pub record Decoded (s : List ℕ) (at : ℕ) (r : Option Char) : Type 0 where
  pub is : r ≡ found (front (drop at s))
  pub fits : IfSome r (λ c. at + c.size ≤ length s)

-- ---- UTF-16: RFC 2781, section 2.1

-- "If U < 0x10000, encode U as a 16-bit unsigned integer"; else "Let U' = U - 0x10000", "W1 = 110110yyyyyyyyyy", "W2 = 110111xxxxxxxxxx"
unfoldable pub units_of : ℕ → List ℕ
units_of u = pick (ltb u 65536) (u ∷ []) ((55296 + (u - 65536) / 1024) ∷ (56320 + (u - 65536) % 1024) ∷ [])

-- ---- a text: "UTF8-octets = *( UTF8-char )"

-- k: how many bytes are still to be passed, being those of the character before
unfoldable pub valid_from : ℕ → List ℕ → Bool
valid_from zero [] = true
valid_from zero (b ∷ l) = pick (eqb (front (b ∷ l)).size 0) false (valid_from ((front (b ∷ l)).size - 1) l)
valid_from (suc k) [] = true
valid_from (suc k) (b ∷ l) = valid_from k l

-- whether a string of bytes is UTF-8
unfoldable pub valid : List ℕ → Bool
valid l = valid_from 0 l

unfoldable pub units_from : ℕ → List ℕ → List ℕ
units_from zero [] = []
units_from zero (b ∷ l) = pick (eqb (front (b ∷ l)).size 0) [] (units_of (front (b ∷ l)).code ++ units_from ((front (b ∷ l)).size - 1) l)
units_from (suc k) [] = []
units_from (suc k) (b ∷ l) = units_from k l

-- its UTF-16 units; of a string that is not UTF-8, those of the characters before the first place where none stands
unfoldable pub units : List ℕ → List ℕ
units l = units_from 0 l

-- ---- bytes below 80 hex: a text that is its own units

unfoldable pub plain : List ℕ → Bool
plain [] = true
plain (b ∷ l) = ltb b 128 && plain l

-- what is known of a text that was judged: that it is one, and perhaps that its bytes are its units
pub record Known (so : Bool) (l : List ℕ) : Type 0 where
  pub text : valid l ≡ true
  pub own : so ≡ true → plain l ≡ true
