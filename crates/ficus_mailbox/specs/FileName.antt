-- Which bytes are the name of a file in a folder.
use Rattle.std.specs.Prelude.{◌≢◌, ℕ, ◌≤◌, List, length, All, codes, IsUtf8}

-- neither 0 nor `/`
pub record IsFileNameByte (byte : ℕ) : Type 0 where
  pub not_zero : byte ≢ 0
  pub not_slash : byte ≢ 47

-- neither the folder itself, nor the one above it, nor a path that leads on
pub record StaysWithin (bytes : List ℕ) : Type 0 where
  pub not_empty : 1 ≤ length bytes
  pub within_limit : length bytes ≤ 255
  pub not_here : bytes ≢ codes "."
  pub not_above : bytes ≢ codes ".."
  pub each : All IsFileNameByte bytes

-- and a text, since paths are texts
pub record IsFileName (bytes : List ℕ) : Type 0 where
  pub within : StaysWithin bytes
  pub text : IsUtf8 bytes
