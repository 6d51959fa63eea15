use Rattle.std.proofs.Common.{refl, arith}
use Rattle.ficus_formats.specs.Format.{byte, number16, number32, number64, string, id}
use Rattle.ficus_formats.specs.Unique.{unique-byte, unique-number16, unique-number32, unique-number64, unique-id, unique-string}
use Rattle.ficus_formats.proofs.Once.{read_once, taken_once}
use Rattle.ficus_formats.proofs.laws.one_number.Goals as goal

pub returns : goal.returns
returns c = record {
  byte = read_once byte unique-byte;
  number16 = read_once number16 unique-number16;
  number32 = read_once number32 unique-number32;
  number64 = read_once number64 unique-number64;
  id = read_once id unique-id;
  short_string = read_once (string byte) (unique-string byte unique-byte);
  long_string = read_once (string number16) (unique-string number16 unique-number16);
  byte_taken = taken_once byte unique-byte 1 (omega arith) (λ x. refl);
  number16_taken = taken_once number16 unique-number16 2 (omega arith) (λ x. refl);
  number32_taken = taken_once number32 unique-number32 4 (omega arith) (λ x. refl);
  number64_taken = taken_once number64 unique-number64 8 (omega arith) (λ x. refl);
  id_taken = taken_once id unique-id 5 (omega arith) (λ x. refl);
}
