-- The lines of a pattern that is an argument and has line ends, or a carriage return at its end.
use Rattle.acredact.specs.Common.{ends_with_byte, flat_map, slice_split, strip_last}
use Rattle.std.specs.Prelude.{◌≡◌, ◌==◌, ◌||◌, ℕ, Bool, MatchBool, false, List, [], ◌∷◌, ◌++◌, None, Vec, if◌then◌else◌, length, nat_eq, nat_lt}
use Rattle.std.specs.List.{list_any}
use Rattle.acredact.specs.Tables.{Holds, Secret, secrets_of}
use Rattle.acredact.specs.declared.rule.Rule.{Rule}

-- a pattern that the option of this number gives
abbrev pub secret_given : ℕ → List ℕ → Secret
secret_given list bytes = record { pattern = bytes; replacement = None; list = list; line = 0; form_of = None }

-- a line of one, without a carriage return at its end, is one too if it has eight bytes or more
abbrev pub line_secrets : ℕ → List ℕ → List Secret
line_secrets list line = if nat_lt (length (strip_last 13 line)) 8 then [] else secret_given list (strip_last 13 line) ∷ []

abbrev pub lines_secrets : ℕ → List ℕ → List Secret
lines_secrets list value = flat_map (line_secrets list) (slice_split (λ b. nat_eq b 10) value)

-- whether it has a line end, or a carriage return at its end
abbrev pub is_of_lines : List ℕ → Bool
is_of_lines value = list_any (λ byte. byte == 10) value || ends_with_byte 13 value

-- those of all its lines, where it has lines
abbrev pub ArePartsOf : ℕ → List ℕ → List Secret → Type 0
ArePartsOf list value parts = parts ≡ (if is_of_lines value then lines_secrets list value else [])

-- where lines are patterns too
abbrev pub ArePartsBy : (wanted : Bool) → ℕ → List ℕ → List Secret → Type 0
ArePartsBy wanted list value parts = MatchBool wanted (ArePartsOf list value parts) (parts ≡ [])

-- what a pattern among the arguments gives: it, and its lines where they are patterns too
pub record GivesPattern (wanted : Bool) (value : List ℕ) (secrets : List Secret) : Type 0 where
  pub secret : Secret
  pub parts : List Secret
  pub are : secrets ≡ secret ∷ parts
  pub held : Holds false value secret
  pub line : secret.line ≡ 0
  pub lines : ArePartsBy wanted secret.list value parts

-- secrets or rules of which this is so are added
pub record IsAddedSome {X : Type 0} (Are : List X → Type 0) (old new : List X) : Type 0 where
  pub more : List X
  pub grown : new ≡ old ++ more
  pub of : Are more

-- the same, of the rules before and after
abbrev pub AddsSome : {Z : Type 0} → (List Secret → Type 0) → (rules rules' : Vec Rule Z) → Type 0
AddsSome Are rules rules' = IsAddedSome Are (secrets_of rules.items) (secrets_of rules'.items)
