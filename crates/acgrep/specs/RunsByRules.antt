-- What a call does by rules, by what its arguments say.
use Rattle.acgrep.specs.Common.{Keeps, Patterns, Rule, bytes_eq}
use Rattle.std.specs.Prelude.{◌++◌, ◌==◌, ◌≡◌, ◌⊎◌, Bool, List, MatchBool, Option, [], codes, decimal, false, if◌then◌else◌, unwrap_or, ℕ}
use Rattle.aho_core.specs.declared.search.MatchKind.TheVariants.{Standard}
use Rattle.secret_rules.specs.Covering.{Covering, covering_by}
use Rattle.secret_rules.specs.Rules.{AreSound}
use Rattle.secret_rules.specs.Tables.{TellsRules}
use Rattle.acgrep.specs.Arguments.{Said}
use Rattle.acgrep.specs.Folders.{Known}
use Rattle.acgrep.specs.Gathered.{AllGive}
use Rattle.acgrep.specs.MarkedFiles.{AreMarkedOr, AreMarksBegun}
use Rattle.acgrep.specs.Runs.{After, AfterRules, IsTextOf, Reached, ReachesAll, status_told}
use Rattle.acgrep.specs.declared.colors.Screen.{Screen}
use Rattle.acgrep.specs.declared.options.Flags.{Flags}

-- the name that stands for the rules of the program
abbrev pub is_own : List ℕ → Bool
is_own name = bytes_eq name (codes "builtin")

-- the text of the file of a name tells these rules
pub record AreFileRules (holds : List ℕ → Option (List ℕ)) (name : List ℕ) (left left' : Option (List ℕ)) (rules : List Rule) : Type 0 where
  pub text : List ℕ
  pub is : IsTextOf holds name left left' text
  pub told : TellsRules text rules

-- or a text of the program does
abbrev pub AreOwnRules : (left left' : Option (List ℕ)) → List Rule → Type 0
AreOwnRules left left' rules = (left' ≡ left) × ((text : List ℕ) × TellsRules text rules)

abbrev pub AreNamedRules : (List ℕ → Option (List ℕ)) → List ℕ → (left left' : Option (List ℕ)) → List Rule → Type 0
AreNamedRules holds name left left' rules = MatchBool (is_own name) (AreOwnRules left left' rules) (AreFileRules holds name left left' rules)

-- those of these names, one after another
abbrev pub AreAllRules : (List ℕ → Option (List ℕ)) → List (List ℕ) → (left left' : Option (List ℕ)) → List Rule → Type 0
AreAllRules holds names left left' rules = AllGive (AreNamedRules holds) names left left' rules

-- how many bytes a line may have
abbrev pub most_said : Flags → ℕ
most_said flags = unwrap_or flags.longest 1048576

-- what is covered of lines: what these rules mark, and no pattern
abbrev pub no_patterns : Patterns
no_patterns = record { words = []; kind = Standard; ignore_case = false }

abbrev pub marking_by : Flags → List Rule → Covering
marking_by flags rules = covering_by false rules (most_said flags) no_patterns

-- the files that operands name were searched by what marks lines
abbrev pub ReachesMarked : Known → Screen → Said → Covering → List (List ℕ) → (left held held' : Option (List ℕ)) → ℕ → Type 0
ReachesMarked known screen given covering names left held held' status =
    ReachesAll known screen given names (λ job files found. AreMarkedOr job covering known.holds left files held held' found) status

-- of some first ones of them all that is asked was written, or a beginning of it, or nothing was
abbrev pub MayReachMarked : Known → Screen → Said → Covering → List (List ℕ) → (left held held' : Option (List ℕ)) → Type 0
MayReachMarked known screen given covering names left held held' =
    Keeps held held' ⊎ Reached known screen given names (λ job files unread. AreMarksBegun job covering known.holds left files held held')

-- by these rules
abbrev pub MarksReached : Known → Screen → Said → List Rule → (left held held' : Option (List ℕ)) → ℕ → Type 0
MarksReached known screen given rules left held held' status = ReachesMarked known screen given (marking_by given.flags rules) given.operands left held held' status

abbrev pub MayBeginMarks : Known → Screen → Said → List Rule → (left held held' : Option (List ℕ)) → Type 0
MayBeginMarks known screen given rules left held held' = MayReachMarked known screen given (marking_by given.flags rules) given.operands left held held'

-- the rules were read, and then, by them, that was done
abbrev pub AfterMarks : Known → Said → Option (List ℕ) → (List Rule → Option (List ℕ) → Type 0) → Type 0
AfterMarks known given left Does = After (λ rules between. AreAllRules known.holds given.rule_files left between rules) Does

abbrev pub MarksAsked : Known → Screen → Said → (left held held' : Option (List ℕ)) → ℕ → Type 0
MarksAsked known screen given left held held' status =
    AfterMarks known given left (λ rules between. AreSound rules × MarksReached known screen given rules between held held' status)

abbrev pub MayBeginAsked : Known → Screen → Said → (left held held' : Option (List ℕ)) → Type 0
MayBeginAsked known screen given left held held' = Keeps held held' ⊎ AfterMarks known given left (λ rules between. MayBeginMarks known screen given rules between held held')

-- the globs in files were read before
abbrev pub MarksRuled : Known → Screen → Said → (left held held' : Option (List ℕ)) → ℕ → Type 0
MarksRuled known screen given left held held' status = AfterRules known given left (λ ruled between. MarksAsked known screen ruled between held held' status)

abbrev pub BeginsByRules : Known → Screen → Said → (left held held' : Option (List ℕ)) → Type 0
BeginsByRules known screen given left held held' = Keeps held held' ⊎ AfterRules known given left (λ ruled between. MayBeginAsked known screen ruled between held held')

-- what was said was done by rules; `left` is what the input has left, and `held` what the output holds
abbrev pub SearchesByRules : Known → Screen → Said → (left held held' : Option (List ℕ)) → ℕ → Type 0
SearchesByRules known screen given left held held' status =
    (found : ℕ) × MarksRuled known screen given left held held' found × (status ≡ status_told given.flags.no_match_ok found)

-- what is told of so many lines that are too long: nothing where there is none
abbrev pub unwritten_line : (most count : ℕ) → List ℕ
unwritten_line most count =
    codes "acgrep" ++ (codes ": lines of more than " ++ (decimal most ++ (codes " bytes, each selected and not written: " ++ (decimal count ++ codes "\n"))))

abbrev pub long_message : (most count : ℕ) → List ℕ
long_message most count = if count == 0 then [] else unwritten_line most count
