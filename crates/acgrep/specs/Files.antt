-- What is written of files, one after another.
use Rattle.acgrep.specs.Common.{Appends, Bor, Consumes, IsAtEnd, Patterns, is_input}
use Rattle.std.specs.Prelude.{◌++◌, ◌||◌, ◌≡◌, ◌⊎◌, Bool, IfSome, List, MatchBool, Option, [], false, if◌then◌else◌, nat_lt, true, ℕ}
use Rattle.acgrep.specs.Begun.{BeginsOf}
use Rattle.acgrep.specs.Binary.{TellsBinary, TellsGuarded, binary_by, is_guarded, is_text, lines_by, lines_sought, takes_text}
use Rattle.acgrep.specs.Contexts.{TellsFile}
use Rattle.acgrep.specs.Filled.{ReadsOn}
use Rattle.acgrep.specs.InTurn.{AreBegun, AreDoneOr, FileWork}
use Rattle.acgrep.specs.Lines.{lines}
use Rattle.acgrep.specs.Printed.{count_by, file_line}
use Rattle.acgrep.specs.Written.{IsAny, IsSelected, SomeLine, TellsOfLines, is_full, needs_one}
use Rattle.acgrep.specs.declared.options.Shown.{Shown}
use Rattle.acgrep.specs.declared.options.Shown.TheVariants.{Count, Lacking, Names, Nothing}
use Rattle.acgrep.specs.declared.print.Style.{Style}
use Rattle.acgrep.specs.declared.job.Job.{Job}

-- behind the lines of a file stands their count where it is asked for
abbrev pub count_if : Shown → Style → ℕ → List ℕ
count_if Count style count = count_by style count
count_if _ style count = []

-- or its name where a line is selected, or where none is
abbrev pub total_if : Shown → Style → ℕ → List ℕ
total_if Count style count = count_by style count
total_if Names style count = if nat_lt 0 count then file_line style else []
total_if Lacking style count = if nat_lt 0 count then [] else file_line style
total_if _ style count = []

-- what is told of each of these lines, the first ones of their file, and the count of selected lines
abbrev pub TellsEach : Patterns → Job → List (List ℕ) → List ℕ → Type 0
TellsEach p job ls bytes =
    (told : List ℕ) × (count : ℕ) × TellsFile p job ls told count × (bytes ≡ told ++ count_if job.shown job.style count)

-- what is written of a file of which these lines are searched: of them, its name where one is selected, or where none is, or nothing
abbrev pub TellsBy : Patterns → Job → Shown → List (List ℕ) → Bool → List ℕ → Type 0
TellsBy p job Names ls any bytes = bytes ≡ (if any then file_line job.style else [])
TellsBy p job Lacking ls any bytes = bytes ≡ (if any then [] else file_line job.style)
TellsBy p job Nothing ls any bytes = bytes ≡ []
TellsBy p job _ ls any bytes = TellsEach p job ls bytes

-- and whether a line of it is selected
abbrev pub TellsSearched : Patterns → Job → List (List ℕ) → Bool → List ℕ → Type 0
TellsSearched p job ls any bytes = IsAny p job.fit job.invert ls any × TellsBy p job job.shown ls any bytes

-- a file was searched whose bytes are these, where they are known: that is written, or what is told where lines with a zero byte are
-- kept from the output, and nothing else
pub record SearchesFile (p : Patterns) (job : Job) (known held held' : Option (List ℕ)) (any : Bool) : Type 0 where
  pub text : List ℕ
  pub of : IfSome known (λ bytes. text ≡ bytes)
  pub bytes : List ℕ
  pub tells : MatchBool (is_guarded job) (TellsGuarded p job text any bytes) (TellsSearched p job (lines_sought job text) any bytes)
  pub written : Appends held held' bytes

-- so many lines of a text are selected as are asked for
abbrev pub HasAllAsked : Patterns → Job → List ℕ → Type 0
HasAllAsked p job text = (told : List ℕ) × (count : ℕ) × TellsOfLines p job job.first 0 (lines job.style.ending text) told count × (is_full job.most count ≡ true)

-- a zero byte was read where lines with one are kept from the output, and a selected line told all
abbrev pub HasTold : Job → List ℕ → Bool → Type 0
HasTold job bytes any = (is_guarded job ≡ true) × (any ≡ true) × SomeLine (λ line. is_text line ≡ false) (lines job.style.ending bytes)

-- one was read where only the lines before the first with one are searched
abbrev pub HasZero : Job → List ℕ → Type 0
HasZero job bytes = (takes_text job ≡ true) × SomeLine (λ line. is_text line ≡ false) (lines job.style.ending bytes)

-- a reader was read to its end, or until a selected line told all, or so many lines of it are selected as are asked for
pub record IsRead (p : Patterns) (job : Job) (left left' : Option (List ℕ)) (any : Bool) : Type 0 where
  pub bytes : List ℕ
  pub read : Consumes left left' bytes
  pub ended : IsAtEnd left' ⊎ (((needs_one job.shown ≡ true) × (any ≡ true)) ⊎ (HasAllAsked p job bytes ⊎ (HasTold job bytes any ⊎ HasZero job bytes)))

-- all that a reader has left was searched
pub record SearchesReader (p : Patterns) (job : Job) (left left' held held' : Option (List ℕ)) (any : Bool) : Type 0 where
  pub file : SearchesFile p job left held held' any
  pub reads : IsRead p job left left' any

-- the same is written of the file of this name, where `later` says whether a line of a file before was selected
pub record IsNamed (job : Job) (bytes : List ℕ) (later : Bool) (named : Job) : Type 0 where
  pub name : Bor (List ℕ)
  pub of : name.now ≡ bytes
  pub is : named ≡ record job { style = record job.style { name = name }; follows = later }

-- how a file is called in what is written
abbrev pub shown_name : (label name : List ℕ) → List ℕ
shown_name label name = if is_input name then label else name

-- its bytes, where they are known: what the input has left, or what is held under the name
abbrev pub known_of : (List ℕ → Option (List ℕ)) → List ℕ → Option (List ℕ) → Option (List ℕ)
known_of holds name left = if is_input name then left else holds name

-- the file of a name was searched; `left` and `held` are what the input has left and what the output holds
pub record SearchesName (p : Patterns) (job : Job) (follows : Bool) (holds : List ℕ → Option (List ℕ)) (name : List ℕ) (left left' held held' : Option (List ℕ)) (any : Bool) : Type 0 where
  pub named : Job
  pub is_named : IsNamed job (shown_name job.label.now name) follows named
  pub file : SearchesFile p named (known_of holds name left) held held' any
  pub reads : MatchBool (is_input name) (IsRead p named left left' any) (left' ≡ left)

-- a file of these bytes, where they are known, has a selected line
abbrev pub HasSelected : Patterns → Job → Option (List ℕ) → Type 0
HasSelected p job known = (text : List ℕ) × IfSome known (λ bytes. text ≡ bytes) × SomeLine (IsSelected p job.fit job.invert) (lines_sought job text)

-- only standard input is read from the input
abbrev pub LeavesInput : List ℕ → (left left' : Option (List ℕ)) → Type 0
LeavesInput name left left' = MatchBool (is_input name) (ReadsOn left left') (left' ≡ left)

-- what is asked of a file as a whole was written
pub record EndsFile (job : Job) (count : ℕ) (held held' : Option (List ℕ)) (any : Bool) : Type 0 where
  pub is_any : any ≡ nat_lt 0 count
  pub written : Appends held held' (total_if job.shown job.style count)

-- a beginning of what is asked of a file as a whole is written, of which so many lines were selected
pub record BeginsTotal (job : Job) (count : ℕ) (held held' : Option (List ℕ)) : Type 0 where
  pub begun : List ℕ
  pub missing : List ℕ
  pub cut : total_if job.shown job.style count ≡ begun ++ missing
  pub written : Appends held held' begun

-- what stands behind what is told of first lines of a text: what is asked of the file as a whole; where lines with a zero byte are kept
-- from the output nothing, or that one of those is selected
abbrev pub IsTail : Patterns → Job → List ℕ → (first : List (List ℕ)) → ℕ → List ℕ → Type 0
IsTail p job text first count tail =
    MatchBool (is_guarded job) ((tail ≡ []) ⊎ (TellsBinary p job text first count × (tail ≡ binary_by job.style))) (tail ≡ total_if job.shown job.style count)

-- all that is told of a file of which these are the lines that are searched
pub record TellsFirst (p : Patterns) (job : Job) (text : List ℕ) (first : List (List ℕ)) (all : List ℕ) : Type 0 where
  pub told : List ℕ
  pub count : ℕ
  pub tells : TellsFile p job first told count
  pub tail : List ℕ
  pub behind : IsTail p job text first count tail
  pub is : all ≡ told ++ tail

-- a file whose bytes are these, where they are known, was not searched to its end, or not all was written: a beginning of what is told
-- where some first lines are searched is
pub record BeginsFile (p : Patterns) (job : Job) (known held held' : Option (List ℕ)) : Type 0 where
  pub text : List ℕ
  pub of : IfSome known (λ bytes. text ≡ bytes)
  pub begins : BeginsOf (TellsFirst p job text) (lines_by (is_guarded job || takes_text job) job.style.ending text) held held'

-- that of the file of a name
pub record BeginsName (p : Patterns) (job : Job) (follows : Bool) (holds : List ℕ → Option (List ℕ)) (name : List ℕ) (left held held' : Option (List ℕ)) : Type 0 where
  pub named : Job
  pub is_named : IsNamed job (shown_name job.label.now name) follows named
  pub file : BeginsFile p named (known_of holds name left) held held'

-- what is searched of files for patterns, where what stands under a name is held so
abbrev pub search_work : Patterns → Job → (List ℕ → Option (List ℕ)) → FileWork (Option (List ℕ))
search_work p job holds = record {
  Does = λ follows name left left' held held' any. SearchesName p job follows holds name left left' held held' any;
  Begins = λ follows name left held held'. BeginsName p job follows holds name left held held';
  Leaves = λ name left left'. LeavesInput name left left';
  Has = λ name left. HasSelected p job (known_of holds name left);
}

-- the files of these names were searched, and the status tells it
abbrev pub AreSearchedOr : Patterns → Job → (List ℕ → Option (List ℕ)) → List (List ℕ) → (left left' held held' : Option (List ℕ)) → ℕ → Type 0
AreSearchedOr p job holds names left left' held held' status = AreDoneOr (search_work p job holds) job.shown names left left' held held' status

-- of some first ones of them all that is asked is written, or a beginning of it
abbrev pub AreFilesBegun : Patterns → Job → (List ℕ → Option (List ℕ)) → List (List ℕ) → (left held held' : Option (List ℕ)) → Type 0
AreFilesBegun p job holds names left held held' = AreBegun (search_work p job holds) false names left held held'
