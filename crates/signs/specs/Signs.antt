-- The sign of the rules that the code's sign names.
use Rattle.rules.specs.Signs as rules
use Rattle.rules.specs.Signs.{plain, dot, opens_class, closes_class, opens_group, closes_group, bar, star_sign, plus_sign, query_sign, opens_count, closes_count, hat, dollar, backslash}
use Rattle.signs.specs.declared.sign.Sign.{Sign}
use Rattle.signs.specs.declared.sign.Sign.TheVariants.{Plain, Dot, OpensClass, ClosesClass, OpensGroup, ClosesGroup, Bar, Star, Plus, Query, OpensCount, ClosesCount, Hat, Dollar, Backslash}

abbrev pub sign_of : Sign → rules.Sign
sign_of Plain = plain
sign_of Dot = dot
sign_of OpensClass = opens_class
sign_of ClosesClass = closes_class
sign_of OpensGroup = opens_group
sign_of ClosesGroup = closes_group
sign_of Bar = bar
sign_of Star = star_sign
sign_of Plus = plus_sign
sign_of Query = query_sign
sign_of OpensCount = opens_count
sign_of ClosesCount = closes_count
sign_of Hat = hat
sign_of Dollar = dollar
sign_of Backslash = backslash
