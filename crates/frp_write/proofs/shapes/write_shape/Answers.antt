use Rattle.frp_write.proofs.shapes.write_shape.Goals as goal

pub returns-in-Snapshot : goal.returns-in-Snapshot
returns-in-Snapshot c = rw (c.in-Snapshot.is, ← c.get-in-Snapshot.ensures, ← c.get-in-Snapshot-2.ensures, ← c.get-in-Snapshot-3.ensures) c.joining-in-Snapshot.ensures
