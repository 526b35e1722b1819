-- What the text of an expression is read as: by the grammar of the kit's `regex`, with Unicode off.
use Rattle.std.specs.Prelude.{ℕ, ◌≤◌, false, List, length, IsSomeAnd, option_map, unwrap_or, chars}
use Rattle.regex.specs.Patterns.{Re, Config, default_config, empty}
use Rattle.regex_syntax.specs.Grammar.{read}
use Rattle.regex_syntax.specs.Verdict.{default_flags}
use Rattle.regex_syntax.specs.declared.error.Error.{Error}

-- the options of each expression: classes, `\b` and case folding mean ASCII, and a match need not be UTF-8
abbrev pub ascii_config : Config
ascii_config = record default_config { flags = record default_flags { unicode = false }; utf8 = false }

-- the text is an expression, and nests no deeper than the limit
abbrev pub IsExpression : List ℕ → Type 0
IsExpression source = IsSomeAnd (read ascii_config (chars source)) (λ (re, _). re.depth ≤ ascii_config.nest_limit)

-- what it matches; the empty word where it is none
unfoldable pub expression_of : List ℕ → Re
expression_of source = unwrap_or (option_map (λ (re, _). re.value) (read ascii_config (chars source))) empty

-- how many groups it has, the whole match included
unfoldable pub group_total : List ℕ → ℕ
group_total source = unwrap_or (option_map (λ (_, names). length names) (read ascii_config (chars source))) 0

-- the place of an error lies in the text
abbrev pub LiesIn : List ℕ → Error → Type 0
LiesIn source error = (error.span.start ≤ error.span.end) × (error.span.end ≤ length source)
