-- The parts are those of what is told.
use Rattle.acgrep.proofs.tell.tell_wrong.Goals as goal

pub returns-in-NoArgument : goal.returns-in-NoArgument
returns-in-NoArgument g c = record { told = rw c.in-NoArgument.is (rw c.valued_name.ensures.name at c.tell_misuse-in-NoArgument.ensures.told) }

pub returns-in-TakesNone : goal.returns-in-TakesNone
returns-in-TakesNone g c = record { told = rw c.in-TakesNone.is c.tell_misuse-in-TakesNone.ensures.told }

pub returns-in-UnknownKind : goal.returns-in-UnknownKind
returns-in-UnknownKind g c = record { told = rw c.in-UnknownKind.is c.write-in-UnknownKind.ensures.told }

pub returns-in-UnknownColor : goal.returns-in-UnknownColor
returns-in-UnknownColor g c = record { told = rw c.in-UnknownColor.is c.write-in-UnknownColor.ensures.told }

pub returns-in-UnknownFolders : goal.returns-in-UnknownFolders
returns-in-UnknownFolders g c = record { told = rw c.in-UnknownFolders.is c.write-in-UnknownFolders.ensures.told }

pub returns-in-UnknownDevices : goal.returns-in-UnknownDevices
returns-in-UnknownDevices g c = record { told = rw c.in-UnknownDevices.is c.write-in-UnknownDevices.ensures.told }

pub returns-in-UnknownBinary : goal.returns-in-UnknownBinary
returns-in-UnknownBinary g c = record { told = rw c.in-UnknownBinary.is c.write-in-UnknownBinary.ensures.told }

pub returns-in-UnknownField : goal.returns-in-UnknownField
returns-in-UnknownField g c = record { told = rw c.in-UnknownField.is c.write-in-UnknownField.ensures.told }

pub returns-in-NoNumber : goal.returns-in-NoNumber
returns-in-NoNumber g c = record { told = rw c.in-NoNumber.is (rw c.name_beside-name.ensures.name at c.tell_number.ensures.told) }
