-- Which bytes are a name.
use Rattle.std.specs.Prelude.{◌≢◌, ℕ, ◌≤◌, List, length, All, codes}
use Rattle.ficus_ids.specs.declared.name.NameFault.{NameFault}
use Rattle.ficus_ids.specs.declared.name.NameFault.TheVariants.{NotName, Memory}

-- not 0, `/` or `#`
pub record IsNameByte (byte : ℕ) : Type 0 where
  pub not_zero : byte ≢ 0
  pub not_slash : byte ≢ 47
  pub not_number_sign : byte ≢ 35

pub record IsName (bytes : List ℕ) : Type 0 where
  pub not_empty : 1 ≤ length bytes
  pub within_limit : length bytes ≤ 64
  pub not_here : bytes ≢ codes "."
  pub not_above : bytes ≢ codes ".."
  pub each : All IsNameByte bytes

-- how a fault is written
abbrev pub fault_text : NameFault → List ℕ
fault_text NotName = codes "not a name"
fault_text Memory = codes "memory"
