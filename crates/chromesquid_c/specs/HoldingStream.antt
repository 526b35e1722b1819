-- What a stream's handle holds.
use Rattle.std.specs.Prelude.{◌≡◌, None, Some}
use Rattle.chromesquid_c.specs.Streaming.{PushedStream}
use Rattle.chromesquid_c.specs.declared.stream_handle.CsStream.{CsStream}

-- it leads to none
abbrev pub HasNoStream : CsStream → Type 0
HasNoStream handle = handle.held.value ≡ None

-- if it leads to a stream, this is so of that
abbrev pub IfStream : CsStream → (PushedStream → Type 0) → Type 0
IfStream handle Is = (stream : PushedStream) → handle.held.value ≡ Some stream → Is stream

-- it leads to a stream of which this is so
abbrev pub OfStream : CsStream → (PushedStream → Type 0) → Type 0
OfStream handle Is = (stream : PushedStream) × (handle.held.value ≡ Some stream) × Is stream

-- it leads to what it led to before
abbrev pub HoldsSameStream : CsStream → CsStream → Type 0
HoldsSameStream before after = after.held.value ≡ before.held.value
