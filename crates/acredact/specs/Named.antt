-- Secrets that are named by a key: a form has the pseudonym of its secret.
use Rattle.acredact.specs.Common.{PieceRule}
use Rattle.std.specs.Prelude.{ℕ, List, Option, Some, None, get_or, map}
use Rattle.acredact.specs.Pseudonyms.{pseudonym_rule}
use Rattle.acredact.specs.Tables.{Secret, patterns_in}
use Rattle.acredact.specs.declared.ways.Key.{Key}

-- what names them: the pseudonyms by a key
abbrev pub rule_by_key : Key → PieceRule
rule_by_key key = pseudonym_rule key.ignore_case key.bytes.now

-- the pattern of the secret of this number, or one's own
abbrev pub pattern_numbered : List Secret → List ℕ → Option ℕ → List ℕ
pattern_numbered secrets own None = own
pattern_numbered secrets own (Some number) = get_or (patterns_in secrets) number own

-- that of the secret of which it is a form, where it is one
abbrev pub own_pattern : List Secret → Secret → List ℕ
own_pattern secrets secret = pattern_numbered secrets secret.pattern secret.form_of

-- what is written in the place of a secret is what is made of that
abbrev pub named_secret : PieceRule → List Secret → Secret → Secret
named_secret rule secrets secret = record {
  pattern = secret.pattern;
  replacement = Some (rule 0 (own_pattern secrets secret));
  list = secret.list;
  line = secret.line;
  form_of = secret.form_of;
}

abbrev pub all_named : PieceRule → List Secret → List Secret
all_named rule secrets = map (named_secret rule secrets) secrets
