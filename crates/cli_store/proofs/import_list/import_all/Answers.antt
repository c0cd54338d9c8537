use Rattle.std.proofs.Common.{ℕ, Vec, Global, inl, refl}
use Rattle.sqlite.specs.Held.{state}
use Rattle.cli_store.specs.Stores.{stores_of}
use Rattle.cli_store.proofs.ListPutLemmas.{list_put}
use Rattle.cli_store.proofs.ZoneFileLemmas.{list_unread}
use Rattle.cli_store.proofs.import_list.import_all.Goals as goal

pub returns-in-Ok : goal.returns-in-Ok
returns-in-Ok g c =
    let s = stores_of (state g.S.Store) (g.P.StoreFiles.finds c.args.files) (g.P.StoreFiles.refuses c.args.files) (g.P.StoreFiles.connects c.args.files) in
    list_put (g.M.Surroundings.around c.args.around.now) s c.args.words (g.I.Input.left c.args.list.now) _ _ _ _ _ c.in-Ok.text.items c.in-Ok.ensures.0 c.in-Ok.ensures.1 (rw c.deref.ensures.value at c.import_text.ensures)

pub returns-in-Err : goal.returns-in-Err
returns-in-Err g c =
    inl (c.in-Err.fault, list_unread (g.I.Input.left c.args.list.now) _ _ (λ (input : Vec ℕ Global). input.items) c.in-Err.fault c.in-Err.ensures, c.write_refusal.ensures, refl)
