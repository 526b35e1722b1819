-- What is written in the place of a run of a call with rules.
use Rattle.acredact.specs.Common.{PieceRule}
use Rattle.std.specs.Prelude.{ℕ, List, Option, None, Some, if◌then◌else◌, nat_lt}
use Rattle.acredact.specs.Pseudonyms.{pseudonym_rule}
use Rattle.acredact.specs.Secrets.{Keyed}

-- a text, or from a number on, where there is one, what is made of the run
abbrev pub text_or_name : (text : List ℕ) → (name : Option (List ℕ)) → (from number : ℕ) → List ℕ
text_or_name text None from number = text
text_or_name text (Some name) from number = if nat_lt number from then text else name

abbrev pub mixed_rule : (texts : PieceRule) → (names : Option PieceRule) → (from : ℕ) → PieceRule
mixed_rule texts None from number bytes = texts number bytes
mixed_rule texts (Some names) from number bytes = text_or_name (texts number bytes) (Some (names number bytes)) from number

-- the pseudonym of a run
abbrev pub pseudonyms_by : Keyed → PieceRule
pseudonyms_by key = pseudonym_rule key.ignore_case key.bytes
