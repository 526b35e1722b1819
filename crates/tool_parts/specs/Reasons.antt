-- Which reason is told for which error of the system.
use Rattle.std.specs.IoError.{error_kind, raw_os_error}
use Rattle.std.specs.Prelude.{◌≡◌, ◌≢◌, pos, Some}
use Rattle.std.specs.declared.io.Error.{Error}
use Rattle.std.specs.declared.io.ErrorKind.{ErrorKind}
use Rattle.std.specs.declared.io.ErrorKind.TheVariants.{NotFound, PermissionDenied, Unsupported, BrokenPipe, WouldBlock, NotADirectory, IsADirectory, FilesystemLoop, InvalidInput, StorageFull, QuotaExceeded, FileTooLarge, InvalidFilename, Interrupted, OutOfMemory, ReadOnlyFilesystem, ResourceBusy, ExecutableFileBusy, StaleNetworkFileHandle, TimedOut, AlreadyExists, CrossesDevices, TooManyLinks, NotSeekable}
use Rattle.tool_parts.specs.declared.reason.Reason.{Reason}
use Rattle.tool_parts.specs.declared.reason.Reason.TheVariants.{NotFound as Missing, Denied, NotPermitted, NoDevice, NoDescriptor, ManyFiles, Unsupported as NoSuchCall, Directory, NoDirectory, Links, LongName, Invalid, Full, TooLarge, Quota, ReadOnly, Busy, Runs, Stale, Late, Exists, OtherDevice, ManyLinks, NotSeekable as NoPlaces, Interrupted as BySignal, Unavailable, Closed, OutOfMemory as NoMemory, Fault}

-- each kind of error that has a text of its own, and a fault for all others
abbrev pub reason_of : ErrorKind → Reason
reason_of NotFound = Missing
reason_of PermissionDenied = Denied
reason_of IsADirectory = Directory
reason_of NotADirectory = NoDirectory
reason_of FilesystemLoop = Links
reason_of InvalidFilename = LongName
reason_of InvalidInput = Invalid
reason_of StorageFull = Full
reason_of FileTooLarge = TooLarge
reason_of QuotaExceeded = Quota
reason_of ReadOnlyFilesystem = ReadOnly
reason_of ResourceBusy = Busy
reason_of ExecutableFileBusy = Runs
reason_of StaleNetworkFileHandle = Stale
reason_of TimedOut = Late
reason_of AlreadyExists = Exists
reason_of CrossesDevices = OtherDevice
reason_of TooManyLinks = ManyLinks
reason_of NotSeekable = NoPlaces
reason_of Interrupted = BySignal
reason_of WouldBlock = Unavailable
reason_of BrokenPipe = Closed
reason_of Unsupported = NoSuchCall
reason_of OutOfMemory = NoMemory
reason_of _ = Fault

-- the reason of an error: its number says which of four reasons without a kind of their own it is, and otherwise its kind decides
pub record IsReasonOf (error : Error) (reason : Reason) : Type 0 where
  pub not_permitted : raw_os_error error ≡ Some (pos 1) → reason ≡ NotPermitted
  pub no_device : raw_os_error error ≡ Some (pos 6) → reason ≡ NoDevice
  pub no_descriptor : raw_os_error error ≡ Some (pos 9) → reason ≡ NoDescriptor
  pub many_files : raw_os_error error ≡ Some (pos 24) → reason ≡ ManyFiles
  pub by_kind : raw_os_error error ≢ Some (pos 1) → raw_os_error error ≢ Some (pos 6) → raw_os_error error ≢ Some (pos 9)
      → raw_os_error error ≢ Some (pos 24) → reason ≡ reason_of (error_kind error)
