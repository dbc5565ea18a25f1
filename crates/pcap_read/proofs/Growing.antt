-- Bytes that are put behind others, read after read.
use Rattle.std.proofs.Common.{◌≡◌, ℕ, List, [], ◌++◌, Option, sym, ap, ◌∙◌, append-nil, append_assoc}
use Rattle.std.specs.Io.KnownBytes.{Keeps}
use Rattle.std.proofs.KnownBytes.{Consumes-nil, Consumes-trans, Consumes-kept}
use Rattle.pcap_read.specs.Window.{Grows}

pub grows_none : (left : Option (List ℕ)) (held : List ℕ) → Grows left left held held
grows_none left held = ([], sym (append-nil held), Consumes-nil left)

-- bytes that came, and then more of them, came one behind the other
pub grows_more : (a b c : Option (List ℕ)) (x y z : List ℕ) → Grows a b x y → Grows b c y z → Grows a c x z
grows_more a b c x y z p q =
    (p.0 ++ q.0, q.1 ∙ ap (λ l. l ++ q.0) p.1 ∙ append_assoc x p.0 q.0, Consumes-trans a b c p.0 q.0 p.2 q.2)

pub grows_kept : (a b c : Option (List ℕ)) (x y z : List ℕ) → Grows a b x y → z ≡ y → Keeps b c → Grows a c x z
grows_kept a b c x y z p e k = (p.0, e ∙ p.1, Consumes-kept a b c p.0 p.2 k)
