-- The expression of what stands behind a keyword.
use Rattle.std.specs.Prelude.{ℕ, List, ◌++◌, chars, codes, encode_utf8_all}
use Rattle.regex_syntax.specs.Verdict.{escaped_text}

-- the keyword as it is written, with ASCII letters the same in both cases; then blanks, quotes, `=`, `:`, `>` and backslashes, as many as
-- there are; and as its group what follows up to a blank, a quote, a comma, a semicolon, `&` or a closing bracket, without the backslashes
-- at its end: they belong to a quote behind it. Where the keyword stands again at the end of that, the group goes on with what stands
-- behind it: of `token: token="abc"` all up to the last quote
abbrev pub after_expression : List ℕ → List ℕ
after_expression keyword =
    codes "(?i)" ++ encode_utf8_all (escaped_text (chars keyword)) ++ codes "[\\s\"'=:\\\\>]*((?:[^\\s\"',;&)\\]}]*"
    ++ encode_utf8_all (escaped_text (chars keyword)) ++ codes "[\\s\"'=:\\\\>]+)*[^\\s\"'=:\\\\>,;&)\\]}](?:\\\\*[^\\s\"'\\\\,;&)\\]}])*)"
