-- Bytes as hexadecimal digits of either case.
use Rattle.std.specs.Prelude.{ℕ, List, Option, Some, None, Result, Ok, Err}
use Rattle.hex.specs.Hex.{decode_of}
use Rattle.hex.specs.declared.error.FromHexError.{FromHexError}

abbrev pub hex_decoded : Result (List ℕ) FromHexError → Option (List ℕ)
hex_decoded (Ok bytes) = Some bytes
hex_decoded (Err why) = None

-- the bytes of an even number of digits
unfoldable pub hex_bytes : List ℕ → Option (List ℕ)
hex_bytes digits = hex_decoded (decode_of digits)
