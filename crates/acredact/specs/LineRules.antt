-- The rules that options give, and how long a line may be by them.
use Rattle.acredact.specs.Common.{FromRead, Readers, Rule, bytes_eq, bytes_left}
use Rattle.std.specs.Prelude.{◌≡◌, ℕ, Bool, MatchBool, List, [], ◌∷◌, Option, Vec, codes, option_and_then, string_bytes, unwrap_or, None}
use Rattle.secret_rules.specs.After.{after_expression}
use Rattle.secret_rules.specs.Rules.{keywords_of, regex_of}
use Rattle.secret_rules.specs.Tables.{TellsRules}
use Rattle.acredact.specs.Arguments.{Given, last_value}
use Rattle.acredact.specs.LineSizes.{size_in}
use Rattle.acredact.specs.Loading.{Reading, reading_of_lists}
use Rattle.acredact.specs.Parts.{IsAddedSome}
use Rattle.acredact.specs.Reads.{EachGives, OfName, ReadsText}
use Rattle.acredact.specs.declared.options.Word.{Word}
use Rattle.acredact.specs.declared.options.Word.TheVariants.{Rules, After, MaxLine}
use Rattle.acredact.specs.declared.folder.Folder.{Ghosts as Folders}
use Rattle.acredact.specs.declared.load.Lists.{Lists}

-- how many bytes a line may have: the last number that is given, or 1 MiB
abbrev pub most_asked : List Given → ℕ
most_asked given = unwrap_or (option_and_then size_in (last_value MaxLine given)) 1048576

-- the rule of what stands behind a keyword
pub record IsBehind (keyword : List ℕ) (rule : Rule) : Type 0 where
  pub id : string_bytes rule.id ≡ keyword
  pub regex : regex_of rule ≡ after_expression keyword
  pub keywords : keywords_of rule ≡ keyword ∷ []
  pub group : rule.secret_group ≡ 1
  pub line : rule.until ≡ None
  pub own : rule.with ≡ None

abbrev pub GivesBehind : List ℕ → List Rule → Type 0
GivesBehind keyword rules = (rule : Rule) × (rules ≡ rule ∷ []) × IsBehind keyword rule

-- a text of TOML was read from the file of this name, and tells these
pub record GivesFileRules (reading : Reading) (name : List ℕ) (rules : List Rule) (left left' : Option (List ℕ)) : Type 0 where
  pub text : List ℕ
  pub reads : OfName reading.holds name (ReadsText text) left left'
  pub told : TellsRules text rules

-- those of the program: a text of its own tells them
abbrev pub GivesOwnRules : List Rule → (left left' : Option (List ℕ)) → Type 0
GivesOwnRules rules left left' = (left' ≡ left) × ((text : List ℕ) × TellsRules text rules)

-- the name that stands for them
abbrev pub is_builtin : List ℕ → Bool
is_builtin name = bytes_eq name (codes "builtin")

abbrev pub GivesNamedRules : Reading → List ℕ → List Rule → (left left' : Option (List ℕ)) → Type 0
GivesNamedRules reading name rules left left' =
    MatchBool (is_builtin name) (GivesOwnRules rules left left') (GivesFileRules reading name rules left left')

-- an option gives no rules
abbrev pub GivesNoRules : List Rule → (left left' : Option (List ℕ)) → Type 0
GivesNoRules rules left left' = (rules ≡ []) × (left' ≡ left)

-- the rules that an option gives
abbrev pub OptionGivesRules : Reading → Word → List ℕ → List Rule
    → (left left' : Option (List ℕ)) → Type 0
OptionGivesRules reading Rules value rules left left' = GivesNamedRules reading value rules left left'
OptionGivesRules reading After value rules left left' = GivesBehind value rules × (left' ≡ left)
OptionGivesRules reading other value rules left left' = GivesNoRules rules left left'

-- those that all options give, in order
abbrev pub AreRulesRead : Reading → List Given → List Rule → (left left' : Option (List ℕ)) → Type 0
AreRulesRead reading given rules left left' = EachGives (λ item. OptionGivesRules reading item.word item.value) given rules left left'

-- some rules are added
abbrev pub AddsThese : {Z : Type 0} → (List Rule → Type 0) → (rules rules' : Vec Rule Z) → Type 0
AddsThese Gives rules rules' = IsAddedSome Gives rules.items rules'.items

module _ {F X R : Type 0} {Reads : Readers R} (D : Folders F X) (lists : Lists F) where
  abbrev pub AddsNamed : {Z : Type 0} → List ℕ → (rules rules' : Vec Rule Z) → (input input' : FromRead R Reads) → Type 0
  AddsNamed name rules rules' input input' =
      AddsThese (λ more. GivesNamedRules (reading_of_lists D lists) name more (bytes_left input) (bytes_left input')) rules rules'

  abbrev pub AddsOption : {Z : Type 0} → Given → (rules rules' : Vec Rule Z) → (input input' : FromRead R Reads) → Type 0
  AddsOption item rules rules' input input' =
      AddsThese (λ more. OptionGivesRules (reading_of_lists D lists) item.word item.value more (bytes_left input) (bytes_left input')) rules rules'

-- the rules of all options were read
abbrev pub ReadsLineRules : {F X R : Type 0} {Reads : Readers R} → Folders F X
    → Lists F → List Given → List Rule → (input input' : FromRead R Reads) → Type 0
ReadsLineRules D lists given rules input input' =
    AreRulesRead (reading_of_lists D lists) given rules (bytes_left input) (bytes_left input')
