mod Calling
mod Closing
mod Counting
mod Growth
mod Keeping
mod Making
mod Serving
