-- One turn is one piece; at the end of the trace nothing is left. Assumes nothing.
use Rattle.map.proofs.RunLaws.{running_piece, running_on, running_ends}
use Rattle.map.proofs.keeping.run_pieces.Goals as goal

pub run_piece-requires : goal.run_piece-requires
run_piece-requires c =
    let found = c.piece_end-end.ensures in
    running_piece _ _ _ _ _ _ _ _ _ c.loop-i.invariant _ found.0 found.1 found.2

pub loop-i-preserved : goal.loop-i-preserved
loop-i-preserved c =
    let found = c.piece_end-end.ensures in
    let ran = c.run_piece.ensures in
    rw (ran.chip, ran.array_after, ran.map_after, ran.answers_after) (running_on _ _ _ _ _ _ _ _ _ c.loop-i.invariant _ found.0 found.1)

pub returns : goal.returns
returns c =
    let e = running_ends _ _ _ _ _ _ _ _ _ c.loop-i.invariant c.loop-i-test.false in
    record { chip = e.0; array_after = e.1.0; map_after = e.1.1.0; answers_after = e.1.1.1 }
