-- What is ready before any file is read.
use Rattle.acredact.specs.Common.{name_bytes, pieces_of}
use Rattle.std.specs.Prelude.{◌≡◌, List}
use Rattle.aho_core.specs.declared.search.Anchored.TheVariants.{No}
use Rattle.chromesquid.specs.Searcher.{Answers, IsBuiltFrom}
use Rattle.acredact.specs.Arguments.{Given, all_given}
use Rattle.acredact.specs.Builds.{patterns_by_given}
use Rattle.acredact.specs.Calls.{names_asked, pieces_asked, redactor_by_given}
use Rattle.acredact.specs.Files.{redactor_of}
use Rattle.acredact.specs.Loading.{Loaded}
use Rattle.acredact.specs.Tables.{Secret, patterns_in, secrets_of}
use Rattle.acredact.specs.declared.options.Item.{Item}
use Rattle.acredact.specs.declared.files.Job.{Job}
use Rattle.acredact.specs.declared.prepare.Ready.{Ready}
use Rattle.acredact.specs.declared.secrets.Secrets.{Secrets}

-- it is what these options ask for, where these secrets were loaded
pub record IsReadyFor (given : List Given) (secrets : List Secret) (ready : Ready) : Type 0 where
  pub patterns : pieces_of ready.patterns.items ≡ patterns_in secrets
  pub pieces : pieces_of ready.replacements.items ≡ pieces_asked given secrets
  pub names : name_bytes ready.names.items ≡ names_asked given
  pub of : IsBuiltFrom ready.searcher (patterns_by_given given (patterns_in secrets))
  pub answers : Answers ready.searcher No

-- the same of some arguments and of what was loaded
abbrev pub IsReadyBy : List Item → Secrets → Ready → Type 0
IsReadyBy items made ready = IsReadyFor (all_given items) (secrets_of made.rules.items) ready

-- what is done to files is what they ask for
pub record IsJobFor {F : Type 0} (folder : F) (given : List Given) (load : Loaded) (job : Job F) : Type 0 where
  pub opens : job.folder.now ≡ folder
  pub names : name_bytes job.names.now ≡ names_asked given
  pub redactor : redactor_of job (patterns_by_given given (patterns_in load.secrets)) ≡ redactor_by_given given load
