use Rattle.std.proofs.Common.{◌≡◌, ℕ, ◌≤◌, Bool, true, false, nat_lt, get_or, ap, arith, replicate, refl}
use Rattle.std.proofs.lemmas.List.{get_or-replicate, length-replicate, get_or_past}
use Rattle.std.proofs.Math.Path.{fun_ext}
use Rattle.state_asks.specs.declared.op.FlowName.{FlowName}
use Rattle.state_asks.specs.declared.op.FlowName.TheVariants.{Any, Named}
use Rattle.eval_engine.specs.Trace.{Names}
use Rattle.evaluation_laws.specs.Views.{is_searched}
use Rattle.evaluation_laws.proofs.searched.Searched.none.Goals as goal

-- no number was looked up
unset : (size number : ℕ) → get_or (replicate size false) number false ≡ false
unset size number = go (nat_lt number size) refl
  where
    go : (b : Bool) → nat_lt number size ≡ b → get_or (replicate size false) number false ≡ false
    go true is = get_or-replicate size number false false (grind arith)
    go false is =
        let long = length-replicate size false in
        let le : size ≤ number = grind arith in
        get_or_past (replicate size false) number false (omega (arith, long))

none_searched : (name : FlowName) → is_searched (record { names = replicate 256 false; any = false; found = false }) name ≡ false
none_searched Any = refl
none_searched (Named number) = unset 256 number

pub returns : goal.returns
returns c = ap Names (fun_ext none_searched)
