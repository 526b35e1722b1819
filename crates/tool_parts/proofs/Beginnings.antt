-- Known bytes that grow by a beginning of others.
use Rattle.std.proofs.Common.{arith, le_refl, ◌≡◌, ℕ, ◌+◌, List, ◌++◌, Option, length, take, drop, sym, ap, subst, ◌∙◌, append_assoc}
use Rattle.std.proofs.KnownBytes.{Appends-kept, Appends-trans}
use Rattle.std.proofs.Math.Seq.{take-append_seam, take-append-add, take-length}
use Rattle.std.proofs.lemmas.List.{take-append-drop, length-append}
use Rattle.std.specs.Io.KnownBytes.{Appends, Keeps}
use Rattle.aho_devices.specs.Counts.{AppendsBeginning}

-- the whole is a beginning
pub beginning-whole : (old new : Option (List ℕ)) (bs : List ℕ) → Appends old new bs → AppendsBeginning old new bs
beginning-whole old new bs grown = (length bs, le_refl (length bs), subst (Appends old new) (sym (take-length bs)) grown)

-- the whole of one, then a beginning of another
pub beginning-later : (old mid new : Option (List ℕ)) (bs cs : List ℕ) → Appends old mid bs → AppendsBeginning mid new cs → AppendsBeginning old new (bs ++ cs)
beginning-later old mid new bs cs grown begun = (
  length bs + begun.0,
  omega (arith, begun.1, length-append bs cs),
  subst (Appends old new) (sym (take-append-add bs cs begun.0)) (Appends-trans old mid new bs (take begun.0 cs) grown begun.2),
)

-- a beginning of the first is one of both
pub beginning-more : (old new : Option (List ℕ)) (bs cs : List ℕ) → AppendsBeginning old new bs → AppendsBeginning old new (bs ++ cs)
beginning-more old new bs cs begun =
    let n = begun.0 in
    let split : bs ++ cs ≡ take n bs ++ (drop n bs ++ cs) = ap (λ l. l ++ cs) (sym (take-append-drop n bs)) ∙ append_assoc (take n bs) (drop n bs) cs in
    let same : take (length (take n bs)) (bs ++ cs) ≡ take n bs = ap (take (length (take n bs))) split ∙ take-append_seam (take n bs) (drop n bs ++ cs) in (
      length (take n bs),
      omega (arith, ap length split, length-append (take n bs) (drop n bs ++ cs)),
      subst (Appends old new) (sym same) begun.2,
    )

-- what is kept afterwards is as it was
pub beginning-kept : (old mid new : Option (List ℕ)) (bs : List ℕ) → AppendsBeginning old mid bs → Keeps mid new → AppendsBeginning old new bs
beginning-kept old mid new bs begun kept = (begun.0, begun.1, Appends-kept old mid new (take begun.0 bs) begun.2 kept)
