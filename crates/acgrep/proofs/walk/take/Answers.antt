-- A folder is entered, and what is searched is found.
use Rattle.acgrep.proofs.Common.{on_ok_weaker}
use Rattle.std.proofs.Common.{◌∙◌, refl, sym}
use Rattle.std.proofs.lemmas.List.{append-nil}
use Rattle.acgrep.specs.Folders.{spot_of, tree_of}
use Rattle.acgrep.proofs.Walking.{finds-entered, finds-left, finds-looked, folder-alone}
use Rattle.acgrep.proofs.walk.take.Goals as goal

pub returns-then-is_spot_left : goal.returns-then-is_spot_left
returns-then-is_spot_left g c =
    let out = rw c.is_folder.ensures at (sym c.is_spot_left.ensures.left ∙ c.if-is_spot_left.true) in
    record { finds = finds-left _ _ _ _ _ _ c.args.found.now c.args.kind c.requires.other c.requires.kind out }

pub returns-then-is_folder : goal.returns-then-is_folder
returns-then-is_folder g c =
    let folder = sym c.is_folder-2.ensures ∙ c.if-is_folder.true in
    let kept = rw (c.is_folder.ensures, folder) at (sym c.is_spot_left.ensures.left ∙ c.if-is_spot_left.false) in
    let known = folder-alone (tree_of g.F.Folders c.args.files.now) c.args.ways (spot_of c.args.spot) c.args.kind folder c.requires.kind in
    record { finds = on_ok_weaker c.enter.result (finds-entered _ _ _ _ _ _ _ _ c.requires.other known kept) c.enter.ensures.entered }

pub returns-then-is_searched : goal.returns-then-is_searched
returns-then-is_searched g c =
    let searched = rw c.reads_devices.ensures at (sym c.is_searched.ensures ∙ c.if-is_searched.true) in
    let plain = sym c.is_folder-2.ensures ∙ c.if-is_folder.false in
    let kept = rw (c.is_folder.ensures, plain) at (sym c.is_spot_left.ensures.left ∙ c.if-is_spot_left.false) in
    record { finds = on_ok_weaker c.add.result (λ grown. finds-looked _ _ _ _ _ _ _ c.args.kind c.requires.other c.requires.kind plain kept (rw searched grown) c.add.ensures.unread) c.add.ensures.names }

pub returns : goal.returns
returns g c =
    let passed = rw c.reads_devices.ensures at (sym c.is_searched.ensures ∙ c.if-is_searched.false) in
    let plain = sym c.is_folder-2.ensures ∙ c.if-is_folder.false in
    let kept = rw (c.is_folder.ensures, plain) at (sym c.is_spot_left.ensures.left ∙ c.if-is_spot_left.false) in
    record { finds = finds-looked _ _ _ _ _ _ _ c.args.kind c.requires.other c.requires.kind plain kept (rw passed (sym (append-nil _))) refl }
