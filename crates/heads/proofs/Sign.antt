-- The class of a sign is one of the first four.
use Rattle.std.proofs.Common.{◌<◌, arith}
use Rattle.tokens.specs.Token.{sign_class}
use Rattle.tokens.specs.Kinds.{shown_sign}
use Rattle.tokens.specs.declared.Sign.{Sign}
use Rattle.tokens.specs.declared.Sign.TheVariants.{Opening, Closing, Comma, Colon}

pub sign_small : (s : Sign) → sign_class (shown_sign s) < 5
sign_small Opening = omega arith
sign_small Closing = omega arith
sign_small Comma = omega arith
sign_small Colon = omega arith
