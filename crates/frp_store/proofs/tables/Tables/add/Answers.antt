use Rattle.frp_store.proofs.Growing.{ready_is}
use Rattle.frp_store.proofs.tables.Tables.add.Goals as goal

pub put-requires : goal.put-requires
put-requires c =
    let p = c.in-Ok.ensures in
    let e = c.in-Ok-enter.ensures in
    record {
      ready = ready_is c.args.self.now c.prepare.new.self c.enter.new.self c.args.node c.in-Ok.birth.before c.in-Ok.birth.dependents p.lists e.rest e.edges p.kept e.entered
          c.requires.begun c.requires.new p.before p.dependents p.room;
    }
