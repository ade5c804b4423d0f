use Rattle.xprs_top.specs.Inputs.{checked_of}
use Rattle.xprs_top.specs.Readings.{InFile, IsProgram, Just, Then, check_of, fetch_of}
use Rattle.xprs_top.proofs.Told.{found_in}
use Rattle.xprs_top.proofs.input.script_input.Goals as goal

pub returns-clause-told : goal.returns-clause-told
returns-clause-told g c =
    found_in (λ files. Just (fetch_of files c.args.name.now)) (λ bytes. Then (InFile c.args.name.now (IsProgram bytes)) (check_of c.args.catalog.now c.args.name.now)) c.in_ok-bytes.bytes.items (checked_of c.args.catalog.now)
    (g.S.Shelf.files c.args.shelf.now) _ _ c.checked_script.result c.in_ok-bytes.ensures.told (rw (← c.as_slice.ensures.value) c.checked_script.ensures.value)
