-- What the exit status of a call says.
use Rattle.acredact.specs.Common.{Readers, SinkGhosts, Writers, bytes_left}
use Rattle.std.specs.Prelude.{◌≡◌, ℕ, List, if◌then◌else◌}
use Rattle.acredact.specs.Arguments.{Given, GivesNoPattern, aim_of}
use Rattle.acredact.specs.Calls.{BeginsCall, Call, IsLineOf, OfCall, OutputFails, RedactsWhole, TellsUpToEnd, call_of}
use Rattle.acredact.specs.Checks.{ChecksAlone}
use Rattle.acredact.specs.Outcomes.{EndSays}
use Rattle.acredact.specs.Ruled.{Between, RuledStatus}
use Rattle.acredact.specs.RuledChecks.{ChecksByRules}
use Rattle.acredact.specs.declared.folder.Folder.{Ghosts as Folders}
use Rattle.acredact.specs.declared.look.Verdict.{Verdict}
use Rattle.acredact.specs.declared.options.Aim.{Aim}
use Rattle.acredact.specs.declared.options.Aim.TheVariants.{CheckLines, CheckTexts, Explain, RedactLines, RedactTexts}
use Rattle.acredact.specs.declared.streams.Streams.{Streams}

-- that of a check
abbrev pub check_status : Verdict → ℕ
check_status verdict = if verdict.all then (if verdict.found then 1 else 0) else 2

-- nothing was read of the input, and nothing written
pub record IsIdle {R W E : Type 0} {Reads : Readers R} (streams streams' : Streams R W E Reads) : Type 0 where
  pub unread : streams'.input ≡ streams.input
  pub unwritten : streams'.output ≡ streams.output

-- what that of a redaction says: of this call, and of the state before and after it
pub record CallStatus {R W E : Type 0} {Reads : Readers R} (Writes : Writers W) (K : SinkGhosts E) (call : Call) (status : ℕ) (streams streams' : Streams R W E Reads) : Type 0 where
  pub patternless : GivesNoPattern call.given → status ≡ 2
  pub idle : GivesNoPattern call.given → IsIdle streams streams'
  pub says : EndSays K (IsLineOf call (OutputFails streams.output streams'.output)) (RedactsWhole Writes K call streams streams')
      (OfCall (BeginsCall Writes) call streams streams') status streams.errors streams'.errors
  pub numbers : TellsUpToEnd K call (OutputFails streams.output streams'.output) (bytes_left streams.input) (bytes_left streams'.input) streams.errors streams'.errors

-- what the status says, by what a call is to do
abbrev pub SaysOfAim : {R W E : Type 0} {Reads : Readers R} → Writers W → SinkGhosts E → Call → ℕ → (streams streams' : Streams R W E Reads) → Aim → Type 0
SaysOfAim Writes K call status streams streams' Explain = Unit {0}
SaysOfAim Writes K call status streams streams' RedactTexts = CallStatus Writes K call status streams streams'
SaysOfAim Writes K call status streams streams' RedactLines = Between Writes (RuledStatus K call status) streams streams'
SaysOfAim Writes K call status streams streams' CheckTexts = ChecksAlone K call status streams streams'
SaysOfAim Writes K call status streams streams' CheckLines = ChecksByRules Writes K call status streams streams'

-- and of these options and files, which ask for it
abbrev pub SaysOfCall : {R W E F X : Type 0} {Reads : Readers R} → Writers W → SinkGhosts E
    → Folders F X → F → ℕ → (streams streams' : Streams R W E Reads) → List Given → Type 0
SaysOfCall Writes K D folder status streams streams' given =
    (aim : Aim) → aim_of given ≡ aim → SaysOfAim Writes K (call_of D folder given) status streams streams' aim
