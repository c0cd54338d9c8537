use Rattle.sqlite.specs.Files.{file_state}
use Rattle.sqlite.specs.WalFiles.{image_at}
use Rattle.office_store.proofs.FileLemmas.{shows, is_of_files, shows_version, version_of_files, shows_still, leaves_still}
use Rattle.office_store.proofs.file.SqlTable+FileStore+FileFrom+S+L.open.Goals as goal

pub returns-in-Ok-adopt-clause-held : goal.returns-in-Ok-adopt-clause-held
returns-in-Ok-adopt-clause-held g c = λ clean trees recovered.
    let before = c.in-Ok-adopt.ensures.asked.honest clean in
    let found = c.in-Ok-adopt.ensures.found clean in
    (found.0, is_of_files (image_at g.S.Start) _ (c.in-Ok.ensures.opened before).0 (c.in-Ok.ensures.found before) _ (c.in-Ok-adopt.ensures.only clean) found.0 found.1 trees recovered, found.1)

pub returns-in-Err-adopt-clause-good : goal.returns-in-Err-adopt-clause-good
returns-in-Err-adopt-clause-good g c = λ clean s held.
    let before = c.in-Err-adopt.ensures.same.honest clean in
    let opened = c.in-Ok.ensures.opened before in
    c.in-Err-adopt.ensures.good clean s (shows (image_at g.S.Start) _ opened.0 (c.in-Ok.ensures.found before) opened.1 s held)

pub returns-in-Err-adopt-clause-wrong : goal.returns-in-Err-adopt-clause-wrong
returns-in-Err-adopt-clause-wrong g c = λ clean is held.
    let before = c.in-Err-adopt.ensures.same.honest clean in
    let opened = c.in-Ok.ensures.opened before in
    c.in-Err-adopt.ensures.wrong clean is (shows_version (image_at g.S.Start) _ opened.0 (c.in-Ok.ensures.found before) opened.1 held)

pub returns-in-Err-adopt-clause-bad : goal.returns-in-Err-adopt-clause-bad
returns-in-Err-adopt-clause-bad g c = λ clean is trees recovered.
    let before = c.in-Err-adopt.ensures.same.honest clean in
    let opened = c.in-Ok.ensures.opened before in
    version_of_files (image_at g.S.Start) _ opened.0 (c.in-Ok.ensures.found before) opened.1 (c.in-Err-adopt.ensures.bad clean is) trees recovered

pub returns-in-Err-adopt-clause-shown : goal.returns-in-Err-adopt-clause-shown
returns-in-Err-adopt-clause-shown g c = λ clean.
    let before = c.in-Err-adopt.ensures.same.honest clean in
    let opened = c.in-Ok.ensures.opened before in
    shows_still (image_at g.S.Start) _ opened.0 (c.in-Ok.ensures.found before) _ c.in-Err-adopt.ensures.shown

pub returns-in-Err-adopt-clause-left : goal.returns-in-Err-adopt-clause-left
returns-in-Err-adopt-clause-left g c = λ trees recovered clean.
    let before = c.in-Err-adopt.ensures.same.honest clean in
    let opened = c.in-Ok.ensures.opened before in
    leaves_still (image_at g.S.Start) _ opened.0 (c.in-Ok.ensures.found before) (file_state c.in-Err-adopt.refused.conn) c.in-Err-adopt.ensures.left trees recovered clean
