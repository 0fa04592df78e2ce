use Rattle.hy_clients.proofs.closing.roller_at_end.Goals as goal
