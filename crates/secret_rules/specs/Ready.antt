-- What a cover of lines is of.
use Rattle.std.specs.Prelude.{◌≡◌, ℕ, Bool, List, Option}
use Rattle.std.specs.Borrow.{Bor}
use Rattle.aho_automaton.specs.declared.automaton.Automaton.{Ghosts as Automata}
use Rattle.secret_rules.specs.OpenLines.{IsSetting, line_rules}
use Rattle.secret_rules.specs.declared.line_cover.LineCover.{LineCover}
use Rattle.secret_rules.specs.declared.rule.Rule.{Rule}

-- its automaton, whether words alone count, its rules, and how long a line may be
abbrev pub searched_automaton : {A : Type 0} → LineCover A → Option (Bor A)
searched_automaton cover = cover.open_line.setting.automaton

abbrev pub words_of : {A : Type 0} → LineCover A → Bool
words_of cover = cover.open_line.setting.words

abbrev pub rules_of : {A : Type 0} → LineCover A → List Rule
rules_of cover = line_rules cover.open_line

abbrev pub most_of : {A : Type 0} → LineCover A → ℕ
most_of cover = cover.open_line.setting.most

-- it can begin a stream
abbrev pub CanCoverLines : {A : Type 0} → Automata A → LineCover A → Type 0
CanCoverLines G cover = IsSetting G cover.open_line.setting (line_rules cover.open_line)

-- the same patterns and rules
pub record CoversTheSame {A : Type 0} (one other : LineCover A) : Type 0 where
  pub automaton : searched_automaton other ≡ searched_automaton one
  pub words : words_of other ≡ words_of one
  pub rules : rules_of other ≡ rules_of one
  pub most : most_of other ≡ most_of one
