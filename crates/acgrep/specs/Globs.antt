-- Which names a glob fits, by words: a glob is parts, one after another. A star stands for any bytes, and each other part for one.
use Rattle.std.specs.Prelude.{◌&&◌, ◌+◌, ◌<◌, ◌==◌, ◌||◌, ◌∷◌, ◌≡◌, ◌≤◌, Bool, List, None, Option, Some, [], drop, false, if◌then◌else◌, is_some, length, nat_le, not, suc, true, zero, ℕ}
use Rattle.acgrep.specs.declared.globs.Front.{Front}
use Rattle.acgrep.specs.declared.globs.Front.TheVariants.{No, Star, Whole}

-- a backslash takes the byte behind it
abbrev pub own_len : ℕ → List ℕ → ℕ
own_len first [] = 0
own_len first (byte ∷ rest) = if first == 92 then 1 else 0

abbrev pub value_at : ℕ → List ℕ → ℕ
value_at first [] = first
value_at first (byte ∷ rest) = if first == 92 then byte else first

-- whether a hyphen and the end of a range stand here: a bracket behind the hyphen closes the set
abbrev pub is_range : List ℕ → Bool
is_range [] = false
is_range (hyphen ∷ []) = false
is_range (hyphen ∷ last ∷ rest) = (hyphen == 45) && not (last == 93)

abbrev pub range_len : List ℕ → ℕ
range_len [] = 0
range_len (hyphen ∷ []) = 0
range_len (hyphen ∷ last ∷ rest) = if is_range (hyphen ∷ last ∷ rest) then 2 + own_len last rest else 0

abbrev pub range_end : ℕ → List ℕ → ℕ
range_end low [] = low
range_end low (hyphen ∷ []) = low
range_end low (hyphen ∷ last ∷ rest) = if is_range (hyphen ∷ last ∷ rest) then value_at last rest else low

-- an item of a set is a byte, or a range: how many bytes it takes behind its first, and whether another byte is in it
abbrev pub item_len : ℕ → List ℕ → ℕ
item_len first behind = own_len first behind + range_len (drop (own_len first behind) behind)

abbrev pub in_item : ℕ → List ℕ → ℕ → Bool
in_item first behind byte =
    nat_le (value_at first behind) byte && nat_le byte (range_end (value_at first behind) (drop (own_len first behind) behind))

-- whether one of the items up to a closing bracket has a byte, where the first `skipped` bytes belong to an item before
abbrev pub has_behind : ℕ → List ℕ → ℕ → Bool
has_behind skipped [] byte = false
has_behind zero (first ∷ behind) byte =
    if first == 93 then false else (in_item first behind byte || has_behind (item_len first behind) behind byte)
has_behind (suc skipped) (first ∷ behind) byte = has_behind skipped behind byte

-- the first item may be a bracket itself
abbrev pub has_in_set : List ℕ → ℕ → Bool
has_in_set [] byte = false
has_in_set (first ∷ behind) byte = in_item first behind byte || has_behind (item_len first behind) behind byte

-- up to where a set goes with its closing bracket, where so many of its bytes were passed
abbrev pub closes_at : (passed skipped : ℕ) → List ℕ → Option ℕ
closes_at passed skipped [] = None
closes_at passed zero (first ∷ behind) =
    if first == 93 then Some (passed + 1) else closes_at (passed + 1) (item_len first behind) behind
closes_at passed (suc skipped) (first ∷ behind) = closes_at (passed + 1) skipped behind

abbrev pub closing : List ℕ → Option ℕ
closing [] = None
closing (first ∷ behind) = closes_at 1 (item_len first behind) behind

-- a set may be negated
abbrev pub negation : List ℕ → ℕ
negation [] = 0
negation (first ∷ rest) = if (first == 33) || (first == 94) then 1 else 0

-- whether the set behind an opening bracket has a byte: a bracket that nothing closes stands for itself
abbrev pub has_in_brackets : List ℕ → ℕ → Bool
has_in_brackets behind byte =
    if is_some (closing (drop (negation behind) behind))
    then (if negation behind == 1 then not (has_in_set (drop (negation behind) behind) byte) else has_in_set (drop (negation behind) behind) byte)
    else (byte == 91)

abbrev pub brackets_len : ℕ → Option ℕ → ℕ
brackets_len before None = 0
brackets_len before (Some count) = before + count

-- whether a part of a glob stands for a byte, and how many bytes it takes behind its first
abbrev pub stands_for : ℕ → List ℕ → ℕ → Bool
stands_for first behind byte =
    if first == 63 then true else (if first == 91 then has_in_brackets behind byte else (value_at first behind == byte))

abbrev pub part_len : ℕ → List ℕ → ℕ
part_len first behind =
    if first == 91 then brackets_len (negation behind) (closing (drop (negation behind) behind)) else own_len first behind

-- some bytes less at the front of a word, or none, and this holds
abbrev pub any_suffix : (List ℕ → Bool) → List ℕ → Bool
any_suffix holds [] = holds []
any_suffix holds (byte ∷ rest) = holds (byte ∷ rest) || any_suffix holds rest

abbrev pub one_fits : (ℕ → Bool) → (List ℕ → Bool) → List ℕ → Bool
one_fits stands others [] = false
one_fits stands others (byte ∷ rest) = stands byte && others rest

abbrev pub is_nothing : List ℕ → Bool
is_nothing [] = true
is_nothing (byte ∷ rest) = false

-- a glob fits a name, where its first `skipped` bytes belong to a part before
abbrev pub fits : ℕ → (glob name : List ℕ) → Bool
fits skipped [] name = is_nothing name
fits zero (first ∷ behind) name =
    if first == 42 then any_suffix (fits 0 behind) name
    else one_fits (stands_for first behind) (fits (part_len first behind) behind) name
fits (suc skipped) (first ∷ behind) name = fits skipped behind name

-- a glob fits a name that is given: the whole, or what stands behind a slash and does not begin with one
abbrev pub begins_part : List ℕ → Bool
begins_part [] = true
begins_part (byte ∷ rest) = not (byte == 47)

abbrev pub tails_fit : (glob name : List ℕ) → Bool
tails_fit glob [] = false
tails_fit glob (byte ∷ rest) = ((byte == 47) && (begins_part rest && fits 0 glob rest)) || tails_fit glob rest

abbrev pub operand_fits : (glob name : List ℕ) → Bool
operand_fits glob name = fits 0 glob name || tails_fit glob name

-- what stands behind the last slash
abbrev pub base_name : (base rest : List ℕ) → List ℕ
base_name base [] = base
base_name base (byte ∷ rest) = if byte == 47 then base_name rest rest else base_name base rest

-- a name was read along a glob up to its first star: what is left of both decides. As many bytes are passed of any name that it fits
pub record IsCut (glob name rest left : List ℕ) : Type 0 where
  pub count : ℕ
  pub cut : left ≡ drop count name
  pub shorter : length rest < length glob
  pub within : length left ≤ length name
  pub back : any_suffix (fits 0 rest) left ≡ true → fits 0 glob name ≡ true
  pub on : (word : List ℕ) → fits 0 glob word ≡ true → any_suffix (fits 0 rest) (drop count word) ≡ true

abbrev pub front_fits : (glob name : List ℕ) → Front → Type 0
front_fits glob name Whole = fits 0 glob name ≡ true
front_fits glob name No = fits 0 glob name ≡ false
front_fits glob name (Star rest left) = IsCut glob name rest.now left.now
