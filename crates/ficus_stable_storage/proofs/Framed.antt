-- A frame that holds a record.
use Rattle.std.proofs.Common.{◌≤◌, ℕ, List, length, ap, arith, length-drop}
use Rattle.ficus_durable_state.specs.declared.saved.Saved.{Saved}
use Rattle.ficus_keeper.specs.Framed.{body_in, head_size}
use Rattle.ficus_stable_storage.specs.Leads.Holds.{Leads}

-- it has a head, since a record has a byte
pub has_head : (framed : List ℕ) {old new : Saved} → Leads (body_in framed) old new → head_size ≤ length framed
has_head framed leads = omega (arith, ap (λ (bytes : List ℕ). length bytes) leads.is, length-drop head_size framed)
