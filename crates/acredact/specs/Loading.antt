-- What the options give, one after another, and why they do not.
use Rattle.acredact.specs.Common.{Bor, ReadFault, Reason, is_input}
use Rattle.std.specs.Prelude.{◌≡◌, ◌⊎◌, ℕ, ◌<◌, ◌≤◌, Bool, true, false, List, [], ◌∷◌, Option, Some, None, IfSome, Result, Err, if◌then◌else◌, length, option_map, Vec}
use Rattle.std.specs.List.{Any}
use Rattle.tool_parts.specs.declared.failure.Failure.TheVariants.{OutOfMemory as NoMemory}
use Rattle.tool_parts.specs.declared.reason.Reason.TheVariants.{OutOfMemory}
use Rattle.acredact.specs.Pseudonyms.{pseudonym_rule}
use Rattle.acredact.specs.Arguments.{Given, has, last_value}
use Rattle.acredact.specs.Forms.{AskedForms, HideSecrets, forms_asked, with_forms}
use Rattle.acredact.specs.LineFaults.{IsLineFault, IsListFault, mark_in}
use Rattle.acredact.specs.Named.{all_named}
use Rattle.acredact.specs.Parts.{GivesPattern}
use Rattle.acredact.specs.Reads.{EachGives, OfName, ReadsText}
use Rattle.acredact.specs.Tables.{AreOfLines, Secret, lines_in, secrets_of}
use Rattle.acredact.specs.Values.{GiveEach, are_refused, first_fault, is_some_value, values_in_entries, values_in_lines, whole_in}
use Rattle.acredact.specs.declared.options.Word.{Word}
use Rattle.acredact.specs.declared.options.Word.TheVariants.{Env, EnvFile, Forms, IgnoreCase, Pattern, Patterns, Pseudonym, Table, Whole}
use Rattle.acredact.specs.declared.failure.Failure.{Failure}
use Rattle.acredact.specs.declared.failure.Failure.TheVariants.{Empty, Line, NoValue, Other, Pattern as BadPattern, ShortKey, Unread, ValueForName}
use Rattle.acredact.specs.declared.folder.Folder.{Ghosts as Folders}
use Rattle.acredact.specs.declared.load.Listed.{Listed}
use Rattle.acredact.specs.declared.load.Listed.TheVariants.{Plain, Rows, Variables, Whole as WholeFile}
use Rattle.acredact.specs.declared.load.Lists.{Lists}
use Rattle.acredact.specs.declared.patterns.BadLine.{BadLine}
use Rattle.acredact.specs.declared.patterns.Form.{Form}
use Rattle.acredact.specs.declared.rule.Rule.{Rule}
use Rattle.acredact.specs.declared.secrets.Secrets.{Secrets}

-- how lists, the files of patterns and tables, are read
pub record Rules : Type 0 where
  pub crlf : Bool
  pub allow_empty : Bool
  pub parts : Bool
  pub forms : AskedForms

abbrev pub rules_for : {F : Type 0} → Lists F → Rules
rules_for lists = record { crlf = lists.crlf; allow_empty = lists.allow_empty; parts = lists.parts; forms = forms_asked (option_map (λ value. value.now) lists.forms) }

-- and by which folder and which environment
pub record Reading : Type 1 where
  pub holds : List ℕ → Option (List ℕ)
  pub refuses : List ℕ → Reason → Type 0
  pub environment : List (List ℕ) → Type 0
  pub rules : Rules

abbrev pub reading_of_lists : {F X : Type 0} → Folders F X → Lists F → Reading
reading_of_lists D lists = record { holds = D.holds lists.folder.now; refuses = D.refuses lists.folder.now; environment = D.environment lists.folder.now; rules = rules_for lists }

abbrev pub form_by : Rules → Bool → Form
form_by rules table = record { table = table; crlf = rules.crlf }

-- the text of a list holds these secrets, one in each line
pub record HoldsSecrets (rules : Rules) (table : Bool) (text : List ℕ) (secrets : List Secret) : Type 0 where
  pub some : text ≡ [] → rules.allow_empty ≡ true
  pub held : AreOfLines (form_by rules table) (lines_in text) secrets

-- some values give these; they may lack one only where that is allowed
pub record GivesValues (rules : Rules) (values : List (List ℕ)) (secrets : List Secret) : Type 0 where
  pub some : are_refused rules.allow_empty values ≡ false
  pub given : GiveEach rules.parts values secrets

-- the values in a text of variables
abbrev pub values_in_text : Rules → List ℕ → List (List ℕ)
values_in_text rules text = values_in_lines (form_by rules false) (lines_in text)

-- such a text holds these: no line of it is wrong
pub record HoldsVariables (rules : Rules) (text : List ℕ) (secrets : List Secret) : Type 0 where
  pub right : first_fault rules.allow_empty (form_by rules false) 1 (lines_in text) ≡ None
  pub given : GivesValues rules (values_in_text rules text) secrets

-- the text of a file that is one pattern is its value
abbrev pub whole_value : Rules → List ℕ → List (List ℕ)
whole_value rules text = whole_in (form_by rules false) text ∷ []

-- by what kind of file it is
abbrev pub HoldsByKind : Rules → Listed → List ℕ → List Secret → Type 0
HoldsByKind rules Plain text secrets = HoldsSecrets rules false text secrets
HoldsByKind rules Rows text secrets = HoldsSecrets rules true text secrets
HoldsByKind rules Variables text secrets = HoldsVariables rules text secrets
HoldsByKind rules WholeFile text secrets = GivesValues rules (whole_value rules text) secrets

-- and no byte order mark stands in front of it
pub record HoldsListed (rules : Rules) (listed : Listed) (text : List ℕ) (secrets : List Secret) : Type 0 where
  pub unmarked : mark_in text ≡ None
  pub holds : HoldsByKind rules listed text secrets

-- the file of this name was read, and it holds these
pub record GivesSecrets (reading : Reading) (listed : Listed) (name : List ℕ) (secrets : List Secret) (left left' : Option (List ℕ)) : Type 0 where
  pub text : List ℕ
  pub reads : OfName reading.holds name (ReadsText text) left left'
  pub held : HoldsListed reading.rules listed text secrets

-- the values of the entries of this name give these
abbrev pub GivesEnvironment : Reading → List ℕ → List Secret → Type 0
GivesEnvironment reading name secrets = (entries : List (List ℕ)) × reading.environment entries × GivesValues reading.rules (values_in_entries name entries) secrets

-- the secrets that an option gives
abbrev pub OptionGives : Reading → Word → List ℕ → List Secret → (left left' : Option (List ℕ)) → Type 0
OptionGives reading Pattern value secrets left left' = GivesPattern reading.rules.parts value secrets × (left' ≡ left)
OptionGives reading Patterns value secrets left left' = GivesSecrets reading Plain value secrets left left'
OptionGives reading Table value secrets left left' = GivesSecrets reading Rows value secrets left left'
OptionGives reading Env value secrets left left' = GivesEnvironment reading value secrets × (left' ≡ left)
OptionGives reading EnvFile value secrets left left' = GivesSecrets reading Variables value secrets left left'
OptionGives reading Whole value secrets left left' = GivesSecrets reading WholeFile value secrets left left'
OptionGives reading other value secrets left left' = (secrets ≡ []) × (left' ≡ left)

-- the secrets that all options give, in order
abbrev pub AreRead : Reading → List Given → List Secret → (left left' : Option (List ℕ)) → Type 0
AreRead reading given secrets left left' = EachGives (λ item. OptionGives reading item.word item.value) given secrets left left'

-- and behind them those of their forms, outside of which the forms show no character that holds a bit of a secret
pub record AreGiven (reading : Reading) (given : List Given) (secrets : List Secret) (left left' : Option (List ℕ)) : Type 0 where
  pub plain : List Secret
  pub read : AreRead reading given plain left left'
  pub are : secrets ≡ with_forms reading.rules.forms plain
  pub hidden : HideSecrets reading.rules.forms plain

-- the key in the file of a name was read: all bytes of that, and there are 16 or more
pub record GivesKey (reading : Reading) (name : List ℕ) (key : Option (List ℕ)) (left left' : Option (List ℕ)) : Type 0 where
  pub bytes : List ℕ
  pub long : 16 ≤ length bytes
  pub is : key ≡ Some bytes
  pub reads : OfName reading.holds name (ReadsText bytes) left left'

-- or there is none, where no file is named
abbrev pub IsKeyGiven : Reading → Option (List ℕ) → Option (List ℕ) → (left left' : Option (List ℕ)) → Type 0
IsKeyGiven reading None key left left' = (key ≡ None) × (left' ≡ left)
IsKeyGiven reading (Some name) key left left' = GivesKey reading name key left left'

-- what is read before any file is redacted: the secrets, and then the key of pseudonyms. Where forms are asked for, that names each secret
pub record Loaded : Type 0 where
  pub secrets : List Secret
  pub key : Option (List ℕ)

abbrev pub loaded_of : List Secret → Option (List ℕ) → Loaded
loaded_of secrets key = record { secrets = secrets; key = key }

-- in whatever form it stands
abbrev pub secrets_by : List Given → Option (List ℕ) → List Secret → List Secret
secrets_by given None secrets = secrets
secrets_by given (Some key) secrets = if has Forms given then all_named (pseudonym_rule (has IgnoreCase given) key) secrets else secrets

-- and it names no run then
abbrev pub for_runs : List Given → Loaded → Loaded
for_runs given load = loaded_of load.secrets (if has Forms given then None else load.key)

abbrev pub loaded_by : List Given → List Secret → Option (List ℕ) → Loaded
loaded_by given secrets key = for_runs given (loaded_of (secrets_by given key secrets) key)

pub record AreLoaded (reading : Reading) (given : List Given) (loaded : Loaded) (left left' : Option (List ℕ)) : Type 0 where
  pub between : Option (List ℕ)
  pub secrets : List Secret
  pub given_all : AreGiven reading given secrets left between
  pub key : Option (List ℕ)
  pub key_given : IsKeyGiven reading (last_value Pseudonym given) key between left'
  pub is : loaded ≡ loaded_by given secrets key

-- the key of some memory, and of some bytes
abbrev pub key_in : {Z : Type 0} → Option (Vec ℕ Z) → Option (List ℕ)
key_in key = option_map (λ bytes. bytes.items) key

abbrev pub key_lent : Option (Bor (List ℕ)) → Option (List ℕ)
key_lent key = option_map (λ bytes. bytes.now) key

-- these rules and this key
abbrev pub loaded_as : List Rule → Option (List ℕ) → Loaded
loaded_as rules key = loaded_of (secrets_of rules) key

-- those that were loaded
abbrev pub loaded_in : Secrets → Loaded
loaded_in made = loaded_as made.rules.items (key_in made.key)

-- a text is not read to its end: a read fails, or memory runs out
abbrev pub IsTextReason : Reason → Type 0
IsTextReason reason = (reason ≡ ReadFault) ⊎ (reason ≡ OutOfMemory)

-- a read failed
abbrev pub is_failed_text : {A : Type 0} → Result A Reason → Bool
is_failed_text (Err ReadFault) = true
is_failed_text other = false

-- the list of a name cannot be read for this reason
abbrev pub CannotRead : Reading → List ℕ → Reason → Type 0
CannotRead reading name reason = IsTextReason reason ⊎ reading.refuses name reason

-- and it is told of the file
abbrev pub IsUnreadFailure : Reading → List ℕ → Failure → Type 0
IsUnreadFailure reading file failure =
    (name : _) × (reason : Reason) × (failure ≡ Unread name reason) × (name.now ≡ file) × CannotRead reading file reason

-- a line of a file is told, of which this is so
abbrev pub IsFaultOfFile : List ℕ → (BadLine → Type 0) → Failure → Type 0
IsFaultOfFile file Is failure = (name : _) × (bad : BadLine) × (failure ≡ Line name bad) × (name.now ≡ file) × Is bad

-- a pattern among the arguments holds no secret
abbrev pub IsPatternFailure : List ℕ → Failure → Type 0
IsPatternFailure value (BadPattern fault) = IsLineFault false value fault
IsPatternFailure value other = ⊥

-- the text of the list of a name holds none
abbrev pub IsTextFailure : Rules → Bool → List ℕ → List ℕ → Failure → Type 0
IsTextFailure rules table file text (Empty name) = (name.now ≡ file) × (text ≡ []) × (rules.allow_empty ≡ false)
IsTextFailure rules table file text (Line name bad) = (name.now ≡ file) × IsListFault (form_by rules table) (lines_in text) bad
IsTextFailure rules table file text other = ⊥

-- there is no value of what has this name, or an empty one; or memory runs out
abbrev pub IsValuesFailure : Rules → List ℕ → List (List ℕ) → Failure → Type 0
IsValuesFailure rules file values failure =
    ((name : _) × (failure ≡ NoValue name) × (name.now ≡ file) × (are_refused rules.allow_empty values ≡ true)) ⊎ (failure ≡ Other NoMemory)

-- a text of variables does not give its values
abbrev pub IsVariablesFailure : Rules → List ℕ → List ℕ → Failure → Type 0
IsVariablesFailure rules file text failure =
    IsFaultOfFile file (λ bad. first_fault rules.allow_empty (form_by rules false) 1 (lines_in text) ≡ Some bad) failure
    ⊎ IsValuesFailure rules file (values_in_text rules text) failure

abbrev pub IsKindFailure : Rules → Listed → List ℕ → List ℕ → Failure → Type 0
IsKindFailure rules Plain file text failure = IsTextFailure rules false file text failure
IsKindFailure rules Rows file text failure = IsTextFailure rules true file text failure
IsKindFailure rules Variables file text failure = IsVariablesFailure rules file text failure
IsKindFailure rules WholeFile file text failure = IsValuesFailure rules file (whole_value rules text) failure

-- the first line of a text is marked
abbrev pub IsMarkedFailure : List ℕ → List ℕ → Failure → Type 0
IsMarkedFailure file text failure = IsFaultOfFile file (λ bad. (bad.number ≡ 1) × (mark_in text ≡ Some bad.fault)) failure

-- or its text holds none
abbrev pub IsListedFailure : Rules → Listed → List ℕ → List ℕ → Failure → Type 0
IsListedFailure rules listed file text failure = IsMarkedFailure file text failure ⊎ IsKindFailure rules listed file text failure

-- no variable that has a value is called so, and a value of some variable is: it is not told
abbrev pub IsValueForName : Rules → List (List ℕ) → List ℕ → Type 0
IsValueForName rules entries name =
    (are_refused rules.allow_empty (values_in_entries name entries) ≡ true) × (is_some_value entries name ≡ true)

-- nor do the values of the environment
abbrev pub IsEnvironmentFailure : Reading → List ℕ → Failure → Type 0
IsEnvironmentFailure reading name failure =
    ((entries : List (List ℕ)) × reading.environment entries
    × (((failure ≡ ValueForName) × IsValueForName reading.rules entries name)
    ⊎ ((IsValueForName reading.rules entries name → ⊥) × IsValuesFailure reading.rules name (values_in_entries name entries) failure)))
    ⊎ (failure ≡ Other NoMemory)

-- the text is that of the list, where the folder tells it
abbrev pub IsListText : Reading → List ℕ → List ℕ → Type 0
IsListText reading file text = is_input file ≡ false → IfSome (reading.holds file) (λ bytes. text ≡ bytes)

-- the list of a name cannot be read, or its text holds none
abbrev pub IsFileFailure : Reading → Listed → List ℕ → Failure → Type 0
IsFileFailure reading listed file failure =
    IsUnreadFailure reading file failure ⊎ ((text : List ℕ) × IsListText reading file text × IsListedFailure reading.rules listed file text failure)

-- the file of a name gives no key: it cannot be read, or has less than 16 bytes
abbrev pub IsKeyFailure : Reading → List ℕ → Failure → Type 0
IsKeyFailure reading file failure =
    IsUnreadFailure reading file failure
    ⊎ ((name : _) × (text : List ℕ) × (failure ≡ ShortKey name) × (name.now ≡ file) × (length text < 16) × IsListText reading file text)

-- nor does that of the option
abbrev pub CannotLoadKey : Reading → List Given → Failure → Type 0
CannotLoadKey reading given failure = IfSome (last_value Pseudonym given) (λ file. IsKeyFailure reading file failure)

-- an option does not give its secrets
abbrev pub CannotLoad : Reading → Given → Failure → Type 0
CannotLoad reading item failure =
    ((item.word ≡ Pattern) × IsPatternFailure item.value failure)
    ⊎ (((item.word ≡ Patterns) × IsFileFailure reading Plain item.value failure)
    ⊎ (((item.word ≡ Table) × IsFileFailure reading Rows item.value failure)
    ⊎ (((item.word ≡ Env) × IsEnvironmentFailure reading item.value failure)
    ⊎ (((item.word ≡ EnvFile) × IsFileFailure reading Variables item.value failure)
    ⊎ ((item.word ≡ Whole) × IsFileFailure reading WholeFile item.value failure)))))

-- one of them does not
abbrev pub CannotLoadOne : Reading → List Given → Failure → Type 0
CannotLoadOne reading given failure = Any (λ item. CannotLoad reading item failure) given

-- or memory runs out, as it may for their forms
abbrev pub CannotLoadAll : Reading → List Given → Failure → Type 0
CannotLoadAll reading given failure = CannotLoadOne reading given failure ⊎ (failure ≡ Other NoMemory)
