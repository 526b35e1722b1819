-- What came stands behind the bytes that were held.
use Rattle.acgrep.proofs.Common.{Consumes, IsAtEnd, length-drop, length-take-le}
use Rattle.std.proofs.Common.{◌++◌, ◌+◌, ◌-◌, ◌<◌, ◌∙◌, ◌≡◌, ◌≤◌, List, Option, ap, append_assoc, arith, drop, length, sym, take, ℕ}
use Rattle.std.proofs.Math.Seq.{take-append-add}
use Rattle.std.proofs.lemmas.List.{take-append-le, take-take}
use Rattle.acgrep.specs.Filled.{FillsBehind}
use Rattle.acgrep.proofs.buffer.Buffer.fill.Goals as goal

filled : (held count len : ℕ) (items shown read post tail : List ℕ) → shown ≡ items → held ≤ length shown → count ≤ length read → held + count ≤ len
    → take (held + count) (take len ((take held shown ++ (read ++ post)) ++ tail)) ≡ take held items ++ take count read
filled held count len items shown read post tail same within came room =
    let front = take held shown in
    let behind = (read ++ post) ++ tail in
    let long : length front ≡ held = length-take-le held shown within in
    take-take (held + count) len ((front ++ (read ++ post)) ++ tail) room
    ∙ ap (take (held + count)) (append_assoc front (read ++ post) tail)
    ∙ ap (λ (n : ℕ). take (n + count) (front ++ behind)) (sym long)
    ∙ take-append-add front behind count
    ∙ ap (λ (l : List ℕ). front ++ l) (ap (take count) (append_assoc read post tail) ∙ take-append-le count read (post ++ tail) came)
    ∙ ap (λ (l : List ℕ). take held l ++ take count read) same

-- by what the room shows and what was read into it
room_filled : (held count len : ℕ) (items shown read post tail : List ℕ) (left left' : Option (List ℕ)) → shown ≡ items → length shown ≡ len → held < len
    → length read ≡ length (take (length shown - held) (drop held shown)) → count ≤ length read
    → Consumes left left' (take count read) → (count ≡ 0 → 0 < length read → IsAtEnd left')
    → FillsBehind (take held items) (take (held + count) (take len ((take held shown ++ (read ++ post)) ++ tail))) left left' count
room_filled held count len items shown read post tail left left' same size low free came consumed ended =
    let rest : length (drop held shown) ≡ length shown - held = length-drop held shown in
    let room : length read ≡ length shown - held = free ∙ length-take-le (length shown - held) (drop held shown) (omega (arith, rest)) in
    record {
      came = take count read;
      behind = filled held count len items shown read post tail same (omega (arith, size, low)) came (omega (arith, size, low, room, came));
      read = consumed;
      counted = length-take-le count read came;
      ended = λ zero. ended zero (omega (arith, room, size, low));
    }

pub returns-clause-filled : goal.returns-clause-filled
returns-clause-filled g c =
    let room = c.args.self.now.room in
    let done = c.in_ok-count.ensures in
    room_filled c.args.self.now.held c.in_ok-count.count room.len room.items c.deref_mut.result.now c.read.new.buf _ _
    (g.R.Read.remaining c.args.input.now) (g.R.Read.remaining c.read.new.self)
    c.deref_mut.ensures.value c.deref_mut.ensures.len c.requires.room c.read.auto.buf done.bound.0 done.bytes.0 done.bytes.1
