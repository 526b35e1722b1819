-- What a long name means among the options of a program, or a beginning of one.
use Rattle.std.specs.Prelude.{ℕ, nat_eq, Bool, List, [], ◌∷◌, Result, Ok, Err, if◌then◌else◌}
use Rattle.std.specs.List.{list_any, starts_with}
use Rattle.std.specs.Str.{bytes_eq}
use Rattle.tool_parts.specs.declared.options.found.Found.{Found}
use Rattle.tool_parts.specs.declared.options.found.Found.TheVariants.{Unknown, Begun, Several, Whole}
use Rattle.tool_parts.specs.declared.options.found.NotFound.{NotFound}
use Rattle.tool_parts.specs.declared.options.found.NotFound.TheVariants.{UnknownName, Ambiguous}

-- an option's long names, of which it has one or more, and what they mean
pub record Named (O : Type 0) : Type 0 where
  pub names : List (List ℕ)
  pub means : O

abbrev pub named : {O : Type 0} → List ℕ → O → Named O
named name means = record { names = name ∷ []; means = means }

abbrev pub named_either : {O : Type 0} → (one other : List ℕ) → O → Named O
named_either one other means = record { names = one ∷ other ∷ []; means = means }

-- what is asked for is one of these names
abbrev pub is_name : List ℕ → List (List ℕ) → Bool
is_name asked names = list_any (bytes_eq asked) names

-- or a beginning of one
abbrev pub begins_name : List ℕ → List (List ℕ) → Bool
begins_name asked names = list_any (λ name. starts_with nat_eq name asked) names

-- a name of a further option begins so too
abbrev pub begun_too : {O : Type 0} → Found O → O → Found O
begun_too Unknown option = Begun option
begun_too (Begun first) option = Several
begun_too Several option = Several
begun_too (Whole first) option = Whole first

-- what is asked for means, as far as found, with a further option: a whole name goes before beginnings
unfoldable pub found_more : {O : Type 0} → List ℕ → Found O → List (List ℕ) → O → Found O
found_more asked found names option = if is_name asked names then Whole option else if begins_name asked names then begun_too found option else found

-- one option after another
abbrev pub found_among : {O : Type 0} → List (Named O) → List ℕ → Found O → Found O
found_among [] asked found = found
found_among (option ∷ options) asked found = found_among options asked (found_more asked found option.names option.means)

-- the option that is meant, of this name, or the only one of which a name begins so; or why none is
abbrev pub meant : {O : Type 0} → Found O → Result O NotFound
meant Unknown = Err UnknownName
meant (Begun option) = Ok option
meant Several = Err Ambiguous
meant (Whole option) = Ok option
