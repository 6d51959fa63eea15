mod Asking
mod Away
