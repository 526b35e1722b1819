-- A message on standard error: `PROGRAM: NAME: line N: CAUSE` and a line end.
use Rattle.std.specs.Prelude.{ℕ, List, [], ◌++◌, Option, Some, None, codes, decimal}
use Rattle.tool_parts.specs.declared.reason.Reason.{Reason}
use Rattle.tool_parts.specs.declared.reason.Reason.TheVariants.{NotFound, Denied, NotPermitted, NoDevice, NoDescriptor, ManyFiles, Unsupported, Directory, Irregular, NoDirectory, Links, LongName, Invalid, Full, TooLarge, Quota, ReadOnly, Busy, Runs, Stale, Late, Exists, OtherDevice, ManyLinks, NotSeekable, Interrupted, Unavailable, Locked, NoLock, Changed, Owner, Closed, OutOfMemory, PositionLimit, ReadFault, Fault}

-- what a message tells: of what and of which line of it, where it says that, and why something was not done
pub record Message : Type 0 where
  pub name : Option (List ℕ)
  pub line : Option ℕ
  pub cause : List ℕ

abbrev pub name_before : Option (List ℕ) → List ℕ
name_before None = []
name_before (Some name) = name ++ codes ": "

abbrev pub line_before : Option ℕ → List ℕ
line_before None = []
line_before (Some line) = codes "line " ++ (decimal line ++ codes ": ")

-- what stands before the cause
abbrev pub head_by : List ℕ → Option (List ℕ) → Option ℕ → List ℕ
head_by program name line = program ++ (codes ": " ++ (name_before name ++ line_before line))

-- the line that a program writes
abbrev pub message_by : List ℕ → Message → List ℕ
message_by program m = head_by program m.name m.line ++ (m.cause ++ codes "\n")

-- the line of such a message, from its parts
abbrev pub message_of : List ℕ → Option (List ℕ) → Option ℕ → List ℕ → List ℕ
message_of program name line cause = message_by program (record { name = name; line = line; cause = cause })

-- why a call of the system failed, as it is told
abbrev pub reason_text : Reason → List ℕ
reason_text NotFound = codes "No such file or directory"
reason_text Denied = codes "Permission denied"
reason_text NotPermitted = codes "Operation not permitted"
reason_text NoDevice = codes "No such device or address"
reason_text NoDescriptor = codes "Bad file descriptor"
reason_text ManyFiles = codes "Too many open files"
reason_text Unsupported = codes "Operation not supported"
reason_text Directory = codes "Is a directory"
reason_text Irregular = codes "Not a regular file"
reason_text NoDirectory = codes "Not a directory"
reason_text Links = codes "Too many levels of symbolic links"
reason_text LongName = codes "File name too long"
reason_text Invalid = codes "Invalid argument"
reason_text Full = codes "No space left on device"
reason_text TooLarge = codes "File too large"
reason_text Quota = codes "Disk quota exceeded"
reason_text ReadOnly = codes "Read-only file system"
reason_text Busy = codes "Device or resource busy"
reason_text Runs = codes "Text file busy"
reason_text Stale = codes "Stale file handle"
reason_text Late = codes "Connection timed out"
reason_text Exists = codes "File exists"
reason_text OtherDevice = codes "Invalid cross-device link"
reason_text ManyLinks = codes "Too many links"
reason_text NotSeekable = codes "Illegal seek"
reason_text Interrupted = codes "Interrupted system call"
reason_text Unavailable = codes "Resource temporarily unavailable"
reason_text Locked = codes "locked by another program"
reason_text NoLock = codes "cannot be locked"
reason_text Changed = codes "changed meanwhile"
reason_text Owner = codes "owner or group cannot be kept"
reason_text Closed = codes "Broken pipe"
reason_text OutOfMemory = codes "out of memory"
reason_text PositionLimit = codes "position limit reached"
reason_text ReadFault = codes "read fault"
reason_text Fault = codes "Input/output error"
