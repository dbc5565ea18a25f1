use Rattle.rm_table.proofs.table.RmTable.split_seat.Given as goal

abbrev pub ghosts-cut_seat : goal.ghosts-cut_seat
ghosts-cut_seat g a = record { place = a.place }
