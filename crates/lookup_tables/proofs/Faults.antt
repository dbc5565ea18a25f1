-- Want of memory is not that the key is there.
use Rattle.std.proofs.Common.{◌≡◌, Result, Ok, Err, IsErrAnd}
use Rattle.lookup_tables.specs.declared.insert_fault.InsertFault.{InsertFault}
use Rattle.lookup_tables.specs.declared.insert_fault.InsertFault.TheVariants.{Exists, OutOfMemory}

-- a fault that can only be want of memory isn't that the key is there
pub only_memory : {T : Type 0} (r : Result T InsertFault) → IsErrAnd r (λ e. e ≡ OutOfMemory) → r ≡ Err Exists → ⊥
only_memory (Ok x) memory is = absurd memory
only_memory (Err e) memory is = cc
